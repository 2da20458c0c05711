-- declaring::columns::null_of: the null value of a scalar column: by what its elements are.
use Rattle.declaring.proofs.columns.Nulls.{null_is}
use Rattle.declaring.specs.Readers.{null_of_scalar}
use Rattle.number.proofs.Laws.{shape_of}
use Rattle.number.specs.Clauses.{shape_as}
use Rattle.number.specs.declared.Elements.{Elements}
use Rattle.table.specs.Shape.{Shape, shape}
use mathlib.Core.Logic.{⊎_elim}
use mathlib.Core.Path.{◌∙◌, ◌≡◌, ap}
use Rattle.declaring.proofs.columns.null_of.Goals as goal

pub returns-in-Truths : goal.returns-in-Truths
unfolding null_of_scalar
returns-in-Truths c =
    let known : (e : Elements) → c.elements_of.result ≡ e → null_of_scalar (shape c.args.kind) c.args.t.now ≡ null_of_scalar (shape_as e) c.args.t.now =
    λ _ told. ap (λ (k : Shape). null_of_scalar k c.args.t.now) (shape_of c.elements_of.ensures told) in
    ⊎_elim (λ p. known _ p) (λ q. ⊎_elim (λ p. known _ p) (λ p. known _ p) q) c.in-Truths.is

pub returns-in-Whole : goal.returns-in-Whole
returns-in-Whole c = null_is _ _ _ (shape_of c.elements_of.ensures c.in-Whole.is) ∙ c.null_value.ensures
