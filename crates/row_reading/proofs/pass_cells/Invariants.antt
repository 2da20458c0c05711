-- row_reading::pass_cells: the loop over columns (RowRead: what is read of the row is what has been read and what is still to come), then what
-- ends the row; each way out is one law of Parts.
use Prim.Native.Nat.{◌-◌}
use mathlib.Core.Path.{◌≡◌}
use lib.ListN.{length}
use Rattle.table.specs.ColumnList.{listed}
use Rattle.row_reading.proofs.Parts.{RowRead}
use Rattle.row_reading.specs.Clauses.{flags_in}
use Rattle.row_reading.proofs.pass_cells.Given as goal

abbrev pub invariant-loop-i : goal.invariant-loop-i
invariant-loop-i l =
    RowRead l.from (listed l.cols) (flags_in l.from l.count l.flags) l.s l.body l.at l.i × (length l.scratch ≡ length l.initial.scratch)
