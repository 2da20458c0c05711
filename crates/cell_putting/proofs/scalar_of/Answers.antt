-- cell_putting::scalar_of: by its length, then by its kind.
use mathlib.Core.Path.{◌∙◌, ap, sym}
use Rattle.cell_putting.proofs.Elements.{array-never, neither-never}
use Rattle.number.specs.Clauses.{shape_as}
use Rattle.cell_putting.proofs.scalar_of.Goals as goal

pub returns-then-not-is_scalar : goal.returns-then-not-is_scalar
returns-then-not-is_scalar c = array-never c.args.column (sym c.is_scalar.ensures ∙ c.if-not-is_scalar.true)

pub returns-in-Whole : goal.returns-in-Whole
returns-in-Whole c = (
  sym c.is_scalar.ensures ∙ c.if-not-is_scalar.false,
  sym c.elements_of.ensures
      ∙ ap shape_as c.in-Whole.is,
)

pub returns-in-Truths : goal.returns-in-Truths
returns-in-Truths c = (
  sym c.is_scalar.ensures ∙ c.if-not-is_scalar.false,
  sym c.elements_of.ensures ∙ ap shape_as
      c.in-Truths.is,
)

pub returns-in-Bits : goal.returns-in-Bits
returns-in-Bits c = neither-never c.args.column _ c.in-Bits.is c.elements_of.ensures
