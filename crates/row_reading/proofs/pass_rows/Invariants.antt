-- row_reading::pass_rows: the loop over rows (RowsPassed: the count from the start on is the count of going on from here); each way out is one law
-- of PassedRows.
use Prim.Native.Nat.{◌-◌}
use mathlib.Core.Path.{◌≡◌}
use lib.ListN.{length}
use Rattle.table.specs.ColumnList.{listed}
use Rattle.row_reading.specs.Clauses.{RowsPassed}
use Rattle.row_reading.proofs.pass_rows.Given as goal

abbrev pub invariant-loop-cols : goal.invariant-loop-cols
invariant-loop-cols l = RowsPassed l.from (listed l.cols) l.s l.start l.before l.at l.rows × (length l.scratch ≡ length l.initial.scratch)

abbrev pub decreases-loop-cols : goal.decreases-loop-cols
decreases-loop-cols l = length l.s - l.at
