-- declaring::columns::read_null: the null value counts on a scalar column alone.
use Rattle.declaring.proofs.columns.Nulls.{array-null, scalar-null}
use Rattle.fields.specs.Fields.{null_of}
use Rattle.table.specs.Shape.{shape}
use mathlib.Core.Path.{◌∙◌}
use Rattle.declaring.proofs.columns.read_null.Goals as goal

pub returns-in-Some : goal.returns-in-Some
returns-in-Some c = rw c.in-Some.is (scalar-null (shape c.args.kind) c.args.scalar _ c.if-scalar.true ∙ c.null_of.ensures)

pub returns-in_default : goal.returns-in_default
returns-in_default c = rw c.in-Some.is (array-null (shape c.args.kind) c.args.scalar _ c.if-scalar.false)

pub returns-in_default-2 : goal.returns-in_default-2
unfolding null_of
returns-in_default-2 c = rw c.in_default.is
