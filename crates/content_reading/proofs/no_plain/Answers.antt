-- `content_reading::no_plain` meets its contract: byte by byte, and of a byte by computation.
use native.Mathlib.Omega.{arith}
use Prim.Native.Nat.{◌<◌, ◌^◌}
use lib.Bits.{and_le_r, bit_and, xor_lt}
use lib.Dec.{lit<}
use Rattle.integer_reading.proofs.Lanes.{plain-marked}
use Rattle.content_reading.proofs.no_plain.Goals as goal

pub overflow_add-fine : goal.overflow_add-fine
overflow_add-fine c =
    let low : bit_and c.args.x 9187201950435737471 < 2 ^ 63 = omega (arith, and_le_r c.args.x 9187201950435737471) in
    record { fits = omega (arith, low) }

pub overflow_add-fine-2 : goal.overflow_add-fine-2
overflow_add-fine-2 c =
    let low : bit_and c.args.x 9187201950435737471 < 2 ^ 63 = omega (arith, and_le_r c.args.x 9187201950435737471) in
    record { fits = omega (arith, xor_lt 63 (bit_and c.args.x 9187201950435737471) 2748926567846913574 low (lit< tt)) }

pub overflow_add-fine-3 : goal.overflow_add-fine-3
overflow_add-fine-3 c =
    let low : bit_and c.args.x 9187201950435737471 < 2 ^ 63 = omega (arith, and_le_r c.args.x 9187201950435737471) in
    record { fits = omega (arith, xor_lt 63 (bit_and c.args.x 9187201950435737471) 4340410370284600380 low (lit< tt)) }

pub returns : goal.returns
returns c = record { marked = λ ds l a. plain-marked ds l a c.args.x }
