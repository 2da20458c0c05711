-- cell_putting::put_null: by the kind of rows.
use mathlib.Core.Path.{refl}
use Rattle.rows.specs.Stream.{write_cell}
use Rattle.table.specs.Cell.{is_null}
use Rattle.tabledata.specs.TableData.{write_text}
use Rattle.cell_putting.proofs.put_null.Goals as goal

pub returns-in-TableData : goal.returns-in-TableData
unfolding write_cell write_text is_null
returns-in-TableData c =
    rw c.in-TableData.is (record { bytes = _; writes = refl; puts = c.put_empty-end.ensures; same_next = refl; null_is = refl })

pub returns-in-Binary : goal.returns-in-Binary
returns-in-Binary c = rw c.in-Binary.is c.put_declared.ensures

pub returns-in-Binary2 : goal.returns-in-Binary2
returns-in-Binary2 c = rw c.in-Binary2.is c.put_flagged.ensures
