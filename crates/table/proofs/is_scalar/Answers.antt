-- table::is_scalar: by the cases of the column's length.
use mathlib.Core.Path.{ap, sym}
use Rattle.table.specs.Cell.{is_one}
use Rattle.table.proofs.is_scalar.Goals as goal

pub returns-in-Fixed : goal.returns-in-Fixed
returns-in-Fixed c = sym (ap is_one c.in-Fixed.is)
