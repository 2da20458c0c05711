-- `eights::quarters` meets its contract: the mask leaves both quotients, each in its part.
use native.Mathlib.Omega.{arith}
use lib.Bits.{and_le_r}
use Prim.Native.Nat.{◌*◌, ◌/◌}
use Rattle.eights.proofs.Parts.{quarters-law}
use borrow.Author.Rules.{rules}
use Rattle.eights.proofs.quarters.Goals as goal

pub overflow_mul-result : goal.overflow_mul-result
overflow_mul-result c = search rules

pub overflow_mul-result-2 : goal.overflow_mul-result-2
overflow_mul-result-2 c = record { fits = omega (arith, and_le_r (c.args.x * 5243 / 524288) 545460846719) }

pub overflow_add-result : goal.overflow_add-result
overflow_add-result c = record { fits = omega (arith, and_le_r (c.args.x * 5243 / 524288) 545460846719) }

pub returns : goal.returns
returns c = record { quarters = quarters-law c.args.x }
