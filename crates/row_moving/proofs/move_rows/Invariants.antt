-- row_moving::move_rows: rows made in the buffer and copied. Over columns: what is read of the row is what has been read and what is still to come
-- (RowRead), and its cells stand in the buffer as they are written (RowMoved). Over rows: some rows more are moved (RowsMoved). A way out gives back
-- what was done before, and says why no row is moved there (Stopping).
use Prim.Native.Nat.{◌+◌, ◌-◌, ◌<◌, ◌≤◌, suc, ℕ}
use mathlib.Core.Bool.{Bool}
use mathlib.Core.List.{List, [], ◌++◌, ◌∷◌}
use mathlib.Core.Logic.{⊎_elim}
use mathlib.Core.Path.{◌∙◌, ◌≡◌, ap, refl, subst, sym}
use lib.ListN.{drop, get_or, length, length-append, take}
use lib.Seq.{length-take-le}
use native.Mathlib.Omega.{arith}
use borrow.Author.Rules.{rules}
use Rattle.binary.specs.Binary.{flag_bit}
use Rattle.moving.proofs.Cells.{settled-after}
use Rattle.moving.proofs.Written.{rows-further, rows_more, rows_none}
use Rattle.moving.specs.Cells.{CellLeft, CellMoved, MovesCell, SettlesCell}
use Rattle.moving.specs.Puts.{Puts}
use Rattle.moving.specs.Rows.{RowLeft, RowsMoved}
use Rattle.moving.specs.declared.Moved.{Moved}
use Rattle.number.specs.Number.{to_digits}
use Rattle.planning.proofs.Steps.{listed-bounded, plan-at, step-most}
use Rattle.planning.specs.Plan.{no_step, step_of}
use Rattle.planning.specs.declared.Plan.{Plan}
use Rattle.planning.specs.declared.Step.{Step}
use Rattle.row_moving.proofs.Moving.{RowMoved, moved_more, moved_row, moved-start}
use Rattle.row_moving.proofs.Stopping.{cell-left, full-left, long-left, unread-left}
use Rattle.row_moving.specs.Clauses.{FramedAs}
use Rattle.row_reading.proofs.Parts.{RowRead, begun-within, cells-closed, cells_open, closed-within, listed-bound}
use Rattle.row_reading.proofs.Parts.{read-end, read_more, read-start, row-begun, row-onward, row-unbegun}
use Rattle.row_reading.specs.Clauses.{cells_end, flags_in}
use Rattle.row_writing.specs.Clauses.{start_bytes}
use Rattle.rows.specs.Bounds.{Within}
use Rattle.rows.specs.Stream.{read_row, write_end, write_row}
use Rattle.table.proofs.ColumnList.{listed-length, listed_next}
use Rattle.table.proofs.Wrote.{wrote_as, wrote-long}
use Rattle.table.specs.ColumnList.{listed, no_column}
use Rattle.table.specs.Result.{good}
use Rattle.table.specs.declared.Column.{Column}
use Rattle.table.specs.declared.Columns.{Columns}
use Rattle.table.specs.declared.Rows.{Rows}
use Rattle.row_moving.proofs.move_rows.Given as goal

abbrev pub invariant-loop-i : goal.invariant-loop-i
invariant-loop-i l =
    (k : RowRead l.from (listed l.cols) (flags_in l.from l.count l.begun.flags) l.s l.begun.cells l.at l.i) × RowMoved l.to (listed l.cols) k.acc l.initial.row l.first l.row l.end l.nulls l.i
    × (length l.scratch ≡ length l.initial.scratch)

abbrev pub invariant-rows : goal.invariant-rows
invariant-rows l =
    RowsMoved l.from l.to (listed l.cols) l.s l.initial.out l.initial.place l.initial.rows l.initial.bytes l.out l.place l.rows l.bytes × (length l.scratch ≡ length l.initial.scratch)
    × (length l.row ≡ length l.initial.row)

abbrev pub decreases-rows : goal.decreases-rows
decreases-rows l = length l.s - l.place
