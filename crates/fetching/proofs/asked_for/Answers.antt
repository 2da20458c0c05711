-- fetching::asked_for: number 0 leaves the answer as it is.
use mathlib.Core.Path.{refl}
use borrow.Author.Tests.{eq-eqb, ne_eqb}
use native.Mathlib.Omega.{arith}
use Rattle.index.specs.Fetch.{asked_for}
use Rattle.fetching.proofs.asked_for.Goals as goal

pub returns-then-a-eq0 : goal.returns-then-a-eq0
unfolding asked_for
returns-then-a-eq0 c = rw (eq-eqb c.args.a.number 0 (omega arith)) refl

pub returns : goal.returns
unfolding asked_for
returns c = rw (ne_eqb c.args.a.number 0 (λ z. omega (arith, z))) refl
