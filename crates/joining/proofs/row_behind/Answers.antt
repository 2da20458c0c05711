-- joining::row_behind: 0 where the part is accepted, else the sum.
use native.Mathlib.Omega.{arith}
use mathlib.Core.Path.{refl}
use borrow.Author.Tests.{eq-eqb, ne_eqb}
use Rattle.joining.proofs.row_behind.Goals as goal

pub overflow_add-result : goal.overflow_add-result
overflow_add-result c = record { fits = omega (arith, c.requires) }

pub returns-then-p-eq0 : goal.returns-then-p-eq0
returns-then-p-eq0 c = rw (eq-eqb c.args.p.number 0 (omega arith)) refl

pub returns-else-p-eq0 : goal.returns-else-p-eq0
returns-else-p-eq0 c = rw (ne_eqb c.args.p.number 0 (λ z. omega (arith, z))) refl
