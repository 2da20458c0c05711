-- `integer_reading::figure` meets its contract: what differs from `0` in a byte is a byte.
use Prim.Native.Nat.{◌<◌}
use native.Mathlib.Omega.{arith}
use mathlib.Core.Path.{refl}
use lib.Bits.{bit_xor, xor_lt}
use lib.Dec.{lit<}
use Rattle.integer_reading.proofs.figure.Goals as goal

pub overflow_cast-result : goal.overflow_cast-result
overflow_cast-result c =
    let small : bit_xor c.args.c 48 < 256 = xor_lt 8 c.args.c 48 c.ranges.c.fits (lit< tt) in
    record { fits = omega (arith, small) }

pub returns : goal.returns
returns c =
    let small : bit_xor c.args.c 48 < 256 = xor_lt 8 c.args.c 48 c.ranges.c.fits (lit< tt) in
    (refl, small)
