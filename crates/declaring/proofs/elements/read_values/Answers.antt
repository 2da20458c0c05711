-- declaring::elements::read_values: what follows `<VALUES`: its attributes, `/>`, and the null value as it was met.
use Rattle.declaring.proofs.elements.Tags.{values-at, values-broken, values-often, values-open}
use Rattle.declaring.specs.Readers.{BodyIs}
use mathlib.Core.Path.{◌∙◌, subst, sym}
use Rattle.declaring.proofs.elements.read_values.Goals as goal

pub returns-in_err-attributes : goal.returns-in_err-attributes
returns-in_err-attributes c = subst (BodyIs _ _ _) (sym c.from_residual.ensures) (values-broken _ _ c.in_err-attributes.ensures)

pub returns-in_err-next : goal.returns-in_err-next
returns-in_err-next c =
    subst (BodyIs _ _ _) (sym c.from_residual-in_err-next.ensures) (values-open _ _ _ c.in_ok-attributes.ensures c.in_err-next.ensures)

pub returns-in_err-null : goal.returns-in_err-null
returns-in_err-null c =
    subst (BodyIs _ _ _) (sym c.from_residual-in_err-null.ensures)
    (values-often _ _ _ c.in_ok-attributes.ensures _ c.in_ok-next.ensures (sym c.at_most_one.ensures ∙ c.in_err-null.was))

pub returns : goal.returns
returns c = values-at _ _ _ c.in_ok-attributes.ensures _ c.in_ok-next.ensures _ (sym c.at_most_one.ensures ∙ c.in_ok-null.was)
