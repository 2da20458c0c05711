-- `eights::singles` meets its contract: the mask leaves the four quotients, each in its part.
use native.Mathlib.Omega.{arith}
use lib.Bits.{and_le_r}
use Prim.Native.Nat.{◌*◌, ◌/◌}
use Rattle.eights.proofs.Parts.{singles-law}
use borrow.Author.Rules.{rules}
use Rattle.eights.proofs.singles.Goals as goal

pub overflow_mul-result : goal.overflow_mul-result
overflow_mul-result c = search rules

pub overflow_mul-result-2 : goal.overflow_mul-result-2
overflow_mul-result-2 c = record { fits = omega (arith, and_le_r (c.args.x * 103 / 1024) 4222189076152335) }

pub overflow_add-result : goal.overflow_add-result
overflow_add-result c = record { fits = omega (arith, and_le_r (c.args.x * 103 / 1024) 4222189076152335) }

pub returns : goal.returns
returns c = record { singles = singles-law c.args.x }
