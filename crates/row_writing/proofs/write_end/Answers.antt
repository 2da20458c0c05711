-- row_writing::write_end: the end of a row that is written, by the kind of rows: as its own writer leaves it, or nothing.
use mathlib.Core.Path.{ap}
use lib.ListN.{length}
use Rattle.table.specs.declared.Rows.{Rows}
use Rattle.rows.specs.Stream.{write_end}
use Rattle.tabledata.specs.TableData.{close-TR}
use Rattle.table.proofs.Wrote.{wrote_none}
use native.Mathlib.Omega.{arith}
use Rattle.row_writing.proofs.write_end.Goals as goal

pub write_row_end-requires : goal.write_row_end-requires
unfolding write_end close-TR
write_row_end-requires c =
    omega (arith, c.requires, ap (λ (r : Rows). length (write_end r)) c.in-TableData.is)

pub returns-in-TableData : goal.returns-in-TableData
unfolding write_end
returns-in-TableData c =
    rw c.in-TableData.is c.write_row_end.ensures

pub returns-in-Binary : goal.returns-in-Binary
unfolding write_end
returns-in-Binary c = rw c.in-Binary.is (wrote_none _ _)

pub returns-in-Binary2 : goal.returns-in-Binary2
unfolding write_end
returns-in-Binary2 c = rw c.in-Binary2.is (wrote_none _ _)
