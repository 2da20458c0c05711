-- declaring::elements::read_field: its start tag, its attributes, what follows them, and what stands once.
use Rattle.declaring.proofs.elements.Tags.{arraysize-often, datatype-never, datatype-often, field_at, field-attributes-broken, field-not, field_open}
use Rattle.declaring.specs.Readers.{FieldIs}
use Rattle.std.specs.Prelude.{Some}
use mathlib.Core.Path.{◌∙◌, ap, subst, sym}
use Rattle.declaring.proofs.elements.read_field.Goals as goal

pub returns-in_err-goes_on : goal.returns-in_err-goes_on
returns-in_err-goes_on c = subst (FieldIs _ _ _) (sym c.from_residual.ensures) (field-not _ _ c.in_err-goes_on.ensures)

pub returns-in_err-attributes : goal.returns-in_err-attributes
returns-in_err-attributes c =
    subst (FieldIs _ _ _) (sym c.from_residual-in_err-attributes.ensures) (field-attributes-broken _ _ _ c.in_ok-goes_on.ensures c.in_err-attributes.ensures)

pub returns-in_err-body : goal.returns-in_err-body
returns-in_err-body c =
    subst (FieldIs _ _ _) (sym c.from_residual-in_err-body.ensures) (field_open _ _ _ c.in_ok-goes_on.ensures _ c.in_ok-attributes.ensures c.in_err-body.ensures)

pub returns-in_err-at_most_one : goal.returns-in_err-at_most_one
returns-in_err-at_most_one c =
    subst (FieldIs _ _ _) (sym c.from_residual-in_err-at_most_one.ensures)
    (datatype-often _ _ _ c.in_ok-goes_on.ensures _ c.in_ok-attributes.ensures _ c.in_ok-body.ensures (sym c.at_most_one.ensures ∙ c.in_err-at_most_one.was))

pub returns-in_err-datatype : goal.returns-in_err-datatype
returns-in_err-datatype c =
    let never = sym c.at_most_one.ensures ∙ c.in_ok-at_most_one.was ∙ ap Some c.in_err-datatype.was in
    subst (FieldIs _ _ _) (sym c.from_residual-in_err-datatype.ensures)
    (datatype-never _ _ _ c.in_ok-goes_on.ensures _ c.in_ok-attributes.ensures _ c.in_ok-body.ensures never)

pub returns-in_err-arraysize : goal.returns-in_err-arraysize
returns-in_err-arraysize c =
    let once = sym c.at_most_one.ensures ∙ c.in_ok-at_most_one.was ∙ ap Some c.in_ok-datatype.was in
    subst (FieldIs _ _ _) (sym c.from_residual-in_err-arraysize.ensures)
    (arraysize-often _ _ _ c.in_ok-goes_on.ensures _ c.in_ok-attributes.ensures _ c.in_ok-body.ensures _ once (sym c.at_most_one-2.ensures ∙ c.in_err-arraysize.was))

pub returns : goal.returns
returns c =
    let once = sym c.at_most_one.ensures ∙ c.in_ok-at_most_one.was ∙ ap Some c.in_ok-datatype.was in
    field_at _ _ _ c.in_ok-goes_on.ensures _ c.in_ok-attributes.ensures _ c.in_ok-body.ensures _ once _ (sym c.at_most_one-2.ensures ∙ c.in_ok-arraysize.was)
