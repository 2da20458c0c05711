-- row_writing::write_held_row: a row that is held is written: what begins it, then its cells one behind the other (WriteInv: what is left to write gives the whole), then
-- what ends it.
use mathlib.Core.List.{[]}
use lib.ListN.{drop}
use Rattle.table.specs.ColumnList.{listed}
use Rattle.row_writing.proofs.RowForm.{WriteInv}
use Rattle.row_writing.specs.Clauses.{HeldWithin, held_next}
use Rattle.row_writing.proofs.write_held_row.Given as goal

abbrev pub invariant-loop-j : goal.invariant-loop-j
invariant-loop-j l =
    WriteInv held_next l.to (listed l.cols) [] l.scratch l.initial.out l.initial.w l.out l.w l.j × HeldWithin (drop l.j (listed l.cols)) (drop l.w.at l.scratch)
