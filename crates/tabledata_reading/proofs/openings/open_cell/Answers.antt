-- `tabledata_reading::openings::open_cell` meets its contract: a bare `<TD>`, or the careful way.
use Rattle.tabledata_reading.proofs.openings.Laws.{quick-start}
use Rattle.tabledata_reading.proofs.openings.open_cell.Goals as goal

pub returns-in-Some : goal.returns-in-Some
returns-in-Some c = quick-start c.in-Some.ensures
