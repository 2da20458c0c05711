-- `integer_reading::decimal_of` meets its contract: pairs, fours, all eight; and no difference passes below 0, whatever the number.
use Prim.Native.Nat.{◌*◌, ◌-◌, ◌/◌, ℕ}
use native.Mathlib.Omega.{arith}
use lib.Bits.{and_le_l, bit_and}
use Rattle.integer_reading.proofs.Figures.{decimal-law}
use Rattle.integer_reading.proofs.decimal_of.Goals as goal

pub overflow_mul-a : goal.overflow_mul-a
overflow_mul-a c = record { fits = omega (arith, and_le_l (c.args.t / 256) 71777214294589695) }

pub overflow_sub-a : goal.overflow_sub-a
overflow_sub-a c = omega (arith, and_le_l (c.args.t / 256) 71777214294589695)

pub overflow_mul-b : goal.overflow_mul-b
overflow_mul-b c = let a : ℕ = c.args.t - bit_and (c.args.t / 256) 71777214294589695 * 246 in record { fits = omega (arith, and_le_l (a / 65536) 281470681808895) }

pub overflow_sub-b : goal.overflow_sub-b
overflow_sub-b c = let a : ℕ = c.args.t - bit_and (c.args.t / 256) 71777214294589695 * 246 in omega (arith, and_le_l (a / 65536) 281470681808895)

pub returns : goal.returns
returns c = record { read = decimal-law c.args.t }
