-- declaring::columns::null_value: a null value: the one element that it has.
use Rattle.std.specs.Prelude.{Some}
use Rattle.declaring.proofs.columns.Nulls.{counted_none, counted-one, counted-other}
use Rattle.element_reading.specs.Elements.{CountsElements}
use Rattle.table.specs.Result.{good}
use borrow.Author.Rules.{rules}
use lib.IntN.{pos, ℤ}
use mathlib.Core.Path.{◌∙◌, ap, refl, subst, sym}
use Rattle.declaring.proofs.columns.null_value.Goals as goal

pub returns-in-Ok-eq1 : goal.returns-in-Ok-eq1
returns-in-Ok-eq1 c = counted-one c.in-Ok-eq1.ensures (pos 0) refl c.in-Ok-eq1.field-0-test ∙ ap (λ (z : ℤ). good (Some z)) (sym (search rules))

pub returns-in_default : goal.returns-in_default
returns-in_default c = counted-other c.in_default.ensures c.in_default.field-0-test.1

pub returns-in_default-2 : goal.returns-in_default-2
returns-in_default-2 c = counted_none (subst (CountsElements _ _ _) c.in_default.is c.plain_elements.ensures)
