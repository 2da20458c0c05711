-- convert::convert_rows: the converter's loops. Over rows: the rows before are done (RowsDone, by RowsFurther from where the loop begins), and the
-- answer for the whole input is the answer of going on from here; rows that are moved between two turns are done by `moved`'s promise. Over
-- columns: what is read of the row is what has been read and what is still to come (RowRead), and what that will be written as (RowMeasured).
-- Each way out is one law of Converting, plugged in where it happens.
use Prim.Native.Nat.{◌+◌, ◌-◌, ◌<◌, ◌≤◌, suc, ℕ}
use mathlib.Core.Bool.{false}
use mathlib.Core.List.{List, ◌∷◌}
use mathlib.Core.Path.{◌∙◌, ◌≡◌, ap, refl, subst, sym}
use lib.ListN.{drop, get_or, length}
use lib.Seq.{sets}
use borrow.Author.Rules.{rules}
use borrow.Author.Tests.{not-false, not-true}
use native.Mathlib.Nat.{le_refl}
use native.Mathlib.Omega.{arith}
use Rattle.convert.proofs.Converting.{Finished, acceptance, read-refusal, room-refusal, write-refusal}
use Rattle.convert.proofs.Measuring.{RowMeasured, held-ready, measured-more, measured-start, row-cannot, row-length, row_wrote}
use Rattle.convert.specs.Clauses.{MeasuredBy, scratch_length}
use Rattle.moving.proofs.Rows.{row_done, rows_start}
use Rattle.moving.proofs.Written.{rows-further}
use Rattle.moving.specs.Rows.{RowsDone, RowsFurther}
use Rattle.table.proofs.ColumnList.{listed-length, listed_next}
use Rattle.table.proofs.Wrote.{wrote-long}
use Rattle.table.specs.ColumnList.{listed, no_column}
use Rattle.row_reading.proofs.Parts.{RowRead, begun-within, cells-closed, cells_open, cells-stopped, closed-within, listed-bound}
use Rattle.row_reading.proofs.Parts.{read-end, read_more, read-start, read-stop, row-begun, row-onward, row-unbegun}
use Rattle.row_reading.specs.Clauses.{cells_end, flags_in}
use Rattle.row_writing.specs.Clauses.{HeldReady, put_form, row_bytes}
use Rattle.rows.specs.Bounds.{Within}
use Rattle.rows.specs.Stream.{at_end, read_cells, read_row, write_row}
use Rattle.table.specs.Outcome.{at}
use Rattle.table.specs.Result.{bad, good}
use Rattle.table.specs.declared.Column.{Column}
use Rattle.table.specs.declared.Columns.{Columns}
use Rattle.table.specs.declared.Rows.{Rows}
use Rattle.convert.proofs.convert_rows.Given as goal

abbrev pub invariant-loop-i : goal.invariant-loop-i
invariant-loop-i l =
    (k : RowRead l.from (listed l.cols) (flags_in l.from l.count l.begin.flags) l.s l.begin.cells l.at l.i) × RowMeasured l.to (listed l.cols) k.acc l.scratch l.m l.i × (l.stop ≡ l.initial.stop)
    × (length l.scratch ≡ length l.initial.scratch)

abbrev pub invariant-rows : goal.invariant-rows
invariant-rows l =
    RowsFurther l.from l.to (listed l.cols) l.s l.initial.out l.initial.cursor.at l.initial.p.rows l.initial.p.bytes l.out l.cursor.at l.p.rows l.p.bytes
    × (l.stop ≡ record { number = 0; row = 0; column = 0; place = length l.s })
    × (length l.scratch ≡ length l.initial.scratch)
    × (length l.row ≡ length l.initial.row)

abbrev pub decreases-rows : goal.decreases-rows
decreases-rows l = length l.s - l.cursor.at
