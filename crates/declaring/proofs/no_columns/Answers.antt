-- declaring::no_columns: a list of columns that are none.
use Rattle.declaring.proofs.no_columns.Goals as goal

pub returns : goal.returns
returns c = rw c.column_of-none.ensures
