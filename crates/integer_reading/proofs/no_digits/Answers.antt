-- `integer_reading::no_digits` meets its contract: byte by byte, and of a byte by computation.
use native.Mathlib.Omega.{arith}
use lib.Bits.{and_le_r, bit_xor}
use Rattle.integer_reading.proofs.Lanes.{digits-marked}
use Rattle.integer_reading.proofs.no_digits.Goals as goal

pub overflow_add-result : goal.overflow_add-result
overflow_add-result c = record { fits = omega (arith, and_le_r (bit_xor c.args.x 3472328296227680304) 9187201950435737471) }

pub returns : goal.returns
returns c = record { marked = λ ds l a. digits-marked ds l a c.args.x }
