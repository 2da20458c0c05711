-- comparing::last_same: by the test of the definition.
use borrow.Author.Tests.{eq-eqb, ne_eqb}
use Rattle.comparing.proofs.last_same.Goals as goal

pub returns-then-differing-ne0 : goal.returns-then-differing-ne0
returns-then-differing-ne0 c = rw (ne_eqb _ _ c.if-differing-ne0.true)

pub returns : goal.returns
returns c = rw (eq-eqb _ _ c.if-differing-ne0.false)
