-- row_reading::read_cell: the reader of the kind of rows.
use Rattle.rows.specs.Stream.{read_cell}
use Rattle.row_reading.proofs.read_cell.Goals as goal

pub returns-in-TableData : goal.returns-in-TableData
unfolding read_cell
returns-in-TableData c =
    rw c.in-TableData.is c.read_text.ensures

pub returns-in-Binary : goal.returns-in-Binary
unfolding read_cell
returns-in-Binary c =
    rw c.in-Binary.is c.read_binary.ensures

pub returns-in-Binary2 : goal.returns-in-Binary2
unfolding read_cell
returns-in-Binary2 c =
    rw c.in-Binary2.is c.read_binary2.ensures
