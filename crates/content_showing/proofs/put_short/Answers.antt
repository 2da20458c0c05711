-- `content_showing::put_short` meets its contract: shifted up by the bytes before its digits, the number that is stored begins with them.
use mathlib.Core.Path.{refl}
use Prim.Native.Nat.{◌<◌, ◌/◌}
use lib.Bits.{bit_or}
use lib.Count.{count_leading_zeros}
use Rattle.content_showing.proofs.Digits.{short-put, shown-fits, zeros-lt}
use native.Mathlib.Omega.{arith}
use Rattle.content_showing.proofs.put_short.Goals as goal

pub overflow_add-t : goal.overflow_add-t
overflow_add-t c = record { fits = shown-fits c.args.v _ c.eight_digits-t.ensures }

pub overflow_mul-zeros : goal.overflow_mul-zeros
overflow_mul-zeros c =
    let few : count_leading_zeros 64 (bit_or c.eight_digits-t.result 1) / 8 < 8 = zeros-lt c.args.v _ c.requires.0 c.eight_digits-t.ensures in
    record { fits = omega (arith, few) }

pub overflow_cast-zeros : goal.overflow_cast-zeros
overflow_cast-zeros c =
    let few : count_leading_zeros 64 (bit_or c.eight_digits-t.result 1) / 8 < 8 = zeros-lt c.args.v _ c.requires.0 c.eight_digits-t.ensures in
    record { fits = omega (arith, few) }

pub overflow_shl-t : goal.overflow_shl-t
overflow_shl-t c =
    let few : count_leading_zeros 64 (bit_or c.eight_digits-t.result 1) / 8 < 8 = zeros-lt c.args.v _ c.requires.0 c.eight_digits-t.ensures in
    omega (arith, few)

pub overflow_sub-result : goal.overflow_sub-result
overflow_sub-result c =
    let few : count_leading_zeros 64 (bit_or c.eight_digits-t.result 1) / 8 < 8 = zeros-lt c.args.v _ c.requires.0 c.eight_digits-t.ensures in
    omega (arith, few)

pub returns : goal.returns
returns c =
    short-put c.args.v _ _ c.requires.0 c.eight_digits-t.ensures refl c.put_eight.ensures c.requires.1
