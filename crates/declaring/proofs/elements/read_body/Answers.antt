-- declaring::elements::read_body: what stands behind a start tag: VALUES or none, and the end tag.
use Rattle.declaring.proofs.elements.Tags.{body-none, body-values-broken, body-values}
use Rattle.declaring.specs.Readers.{BodyIs}
use mathlib.Core.Path.{subst, sym}
use Rattle.declaring.proofs.elements.read_body.Goals as goal

pub returns-in_default : goal.returns-in_default
returns-in_default c = body-none _ _ _ c.in_default.ensures c.read_end_tag.ensures

pub returns-in_err-values : goal.returns-in_err-values
returns-in_err-values c = subst (BodyIs _ _ _) (sym c.from_residual.ensures) (body-values-broken _ _ _ c.in-Some.ensures c.in_err-values.ensures)

pub returns : goal.returns
returns c = body-values _ _ _ c.in-Some.ensures _ _ _ c.in_ok-values.ensures c.read_end_tag-2.ensures
