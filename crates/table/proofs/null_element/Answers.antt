-- table::null_element: a scalar has the null of its kind, and no other column has one.
use Rattle.table.specs.Cell.{null_element}
use mathlib.Core.Path.{◌∙◌, sym}
use Rattle.table.proofs.null_element.Goals as goal

pub returns-then-is_scalar : goal.returns-then-is_scalar
unfolding null_element
returns-then-is_scalar c = rw (sym c.is_scalar.ensures ∙ c.if-is_scalar.true) c.null_of_kind.ensures

pub returns-else-is_scalar : goal.returns-else-is_scalar
unfolding null_element
returns-else-is_scalar c = rw (sym c.is_scalar.ensures ∙ c.if-is_scalar.false)
