-- finding::within: the lesser of the two.
use borrow.Author.Tests.{le-ltb, lt-ltb}
use mathlib.Core.Path.{refl}
use native.Mathlib.Omega.{arith}
use Rattle.finding.proofs.within.Goals as goal

pub returns-then-start-end : goal.returns-then-start-end
returns-then-start-end c = rw (lt-ltb c.args.start c.args.end (omega arith)) refl

pub returns-else-start-end : goal.returns-else-start-end
returns-else-start-end c = rw (le-ltb c.args.start c.args.end (omega arith)) refl
