-- table::column_of: the record of its three parts, as the definition has it.
use mathlib.Core.Path.{refl}
use Rattle.table.proofs.column_of.Goals as goal

pub returns : goal.returns
returns c = refl
