-- declaring::elements::read_rest: what stands behind the attributes of a FIELD: `/>`, or `>` and a body.
use Rattle.declaring.proofs.elements.Tags.{rest-body, rest-broken, rest-empty}
use Rattle.declaring.specs.Readers.{BodyIs}
use mathlib.Core.Path.{subst, sym}
use Rattle.declaring.proofs.elements.read_rest.Goals as goal

pub returns-in-Some : goal.returns-in-Some
returns-in-Some c = rest-empty _ _ _ c.in-Some.ensures

pub returns-in_err-ends : goal.returns-in_err-ends
returns-in_err-ends c = subst (BodyIs _ _ _) (sym c.from_residual.ensures) (rest-broken _ _ c.in_default.ensures c.in_err-ends.ensures)

pub returns : goal.returns
returns c = rest-body _ _ c.in_default.ensures _ _ c.in_ok-ends.ensures c.read_body.ensures
