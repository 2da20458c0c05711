-- convert::convert_rows: the converter's loops. Over rows: the rows before are done (RowsDone, by RowsFurther from where the loop begins), and the
-- answer for the whole input is the answer of going on from here; rows that are moved between two turns are done by `moved`'s promise. Over
-- columns: what is read of the row is what has been read and what is still to come (RowRead), and what that will be written as (RowMeasured).
-- Each way out is one law of Converting, plugged in where it happens.
use Prim.Native.Nat.{◌+◌, ◌-◌, ◌<◌, ◌≤◌, suc, ℕ}
use mathlib.Core.Bool.{false}
use mathlib.Core.List.{List, ◌∷◌}
use mathlib.Core.Path.{◌∙◌, ◌≡◌, ap, refl, subst, sym}
use lib.ListN.{drop, get_or, length}
use lib.Seq.{sets}
use borrow.Author.Rules.{rules}
use borrow.Author.Tests.{not-false, not-true}
use native.Mathlib.Nat.{le_refl}
use native.Mathlib.Omega.{arith}
use Rattle.convert.proofs.Converting.{Finished, acceptance, read-refusal, room-refusal, write-refusal}
use Rattle.convert.proofs.Measuring.{RowMeasured, held-ready, measured-more, measured-start, row-cannot, row-length, row_wrote}
use Rattle.convert.specs.Clauses.{MeasuredBy, scratch_length}
use Rattle.moving.proofs.Rows.{row_done, rows_start}
use Rattle.moving.proofs.Written.{rows-further}
use Rattle.moving.specs.Rows.{RowsDone, RowsFurther}
use Rattle.table.proofs.ColumnList.{listed-length, listed_next}
use Rattle.table.proofs.Wrote.{wrote-long}
use Rattle.table.specs.ColumnList.{listed, no_column}
use Rattle.row_reading.proofs.Parts.{RowRead, begun-within, cells-closed, cells_open, cells-stopped, closed-within, listed-bound}
use Rattle.row_reading.proofs.Parts.{read-end, read_more, read-start, read-stop, row-begun, row-onward, row-unbegun}
use Rattle.row_reading.specs.Clauses.{cells_end, flags_in}
use Rattle.row_writing.specs.Clauses.{HeldReady, put_form, row_bytes}
use Rattle.rows.specs.Bounds.{Within}
use Rattle.rows.specs.Stream.{at_end, read_cells, read_row, write_row}
use Rattle.table.specs.Outcome.{at}
use Rattle.table.specs.Reasons.{number_of}
use Rattle.std.specs.Prelude.{Option}
use Rattle.table.specs.Result.{bad, good}
use Rattle.table.specs.declared.Column.{Column}
use Rattle.table.specs.declared.Columns.{Columns}
use Rattle.table.specs.declared.Rows.{Rows}
use Rattle.convert.proofs.convert_rows.Goals as goal

pub frame_size-around-requires : goal.frame_size-around-requires
frame_size-around-requires c = omega (arith, c.requires.0.few, listed-length c.args.cols)

pub moved-first-requires : goal.moved-first-requires
moved-first-requires c =
    let n = c.start.ensures in
    let z = c.start-2.ensures in record { within = (c.requires.0, omega (arith, c.requires.1), c.requires.2); at_in_bounds = (omega (arith, n), omega (arith, n, z.0), omega (arith, z.1)) }

pub rows-init : goal.rows-init
rows-init c =
    let n = c.start.ensures in
    let z = c.start-2.ensures in
    let m = rows-further c.moved-first.ensures.moves_rows.moved c.requires.0 (omega (arith, n)) (omega (arith, n, z.0)) in
    (record { inside = m.inside; fewer = m.fewer; room = m.room; long = refl; onward = le_refl _; further = λ o d. d }, refl, refl, refl)

pub at_end-requires : goal.at_end-requires
at_end-requires c = c.rows.invariant.0.inside

pub begin_row-requires : goal.begin_row-requires
begin_row-requires c =
    let cols-at : Columns = c.args.cols in
    let are : Within (listed cols-at) = c.requires.0 in
    let few : cols-at.count ≤ 64 = omega (arith, are.few, listed-length cols-at) in
    (c.rows.invariant.0.inside, omega (arith, are.some, listed-length cols-at), few)

pub loop-i-init : goal.loop-i-init
unfolding read-start
loop-i-init c =
    let from_at : Rows = c.args.from in
    let to_at : Rows = c.args.to in
    let cols-at : Columns = c.args.cols in
    let s-at : List ℕ = c.args.s.now in
    let flags-at : ℕ = c.in-Ok.begin.flags in
    let body_at : ℕ = c.in-Ok.begin.cells in
    let within : (c.rows.cursor.at ≤ body_at) × (body_at ≤ length s-at) = (
    let g = c.begin_row in
    begun-within from_at (listed cols-at) cols-at.count (listed-length cols-at) s-at c.rows.cursor.at g.result g.ensures c.in-Ok.begin
    c.in-Ok.is) in (
      read-start from_at (listed cols-at) _ s-at body_at within.1,
      measured-start to_at (listed cols-at) c.rows.scratch c.start-m.result
          c.start-m.ensures,
      refl,
      refl,
    )

pub offset_bounds-cols-i : goal.offset_bounds-cols-i
offset_bounds-cols-i c =
    let cols-at : Columns = c.args.cols in
    let are : Within (listed cols-at) = c.requires.0 in
    let few : cols-at.count ≤ 64 = omega (arith, are.few, listed-length cols-at) in
    omega (arith, few, c.loop-i-test.true)

pub bounds-cols-i : goal.bounds-cols-i
bounds-cols-i c =
    let cols-at : Columns = c.args.cols in
    let are : Within (listed cols-at) = c.requires.0 in
    let few : cols-at.count ≤ 64 = omega (arith, are.few, listed-length cols-at) in
    omega (arith, few, c.loop-i-test.true)

pub flag_of-flagged-requires : goal.flag_of-flagged-requires
flag_of-flagged-requires c =
    let cols-at : Columns = c.args.cols in
    let are : Within (listed cols-at) = c.requires.0 in
    let few : cols-at.count ≤ 64 = omega (arith, are.few, listed-length cols-at) in
    (c.loop-i-test.true, few)

pub measure-requires : goal.measure-requires
measure-requires c =
    let cols-at : Columns = c.args.cols in
    let are : Within (listed cols-at) = c.requires.0 in
    let scratch-kept : length c.rows.scratch ≡ length c.args.scratch.now = c.rows.invariant.2 ∙ c.moved-first.ensures.scratch_len_unchanged in
    let few : cols-at.count ≤ 64 = omega (arith, are.few, listed-length cols-at) in
    let scratch-long : (n : ℕ) → n ≡ length c.rows.scratch → scratch_length ≤ n = λ n e. omega (arith, e, scratch-kept, c.requires.1) in
    let l = c.loop-i in
    (l.invariant.0.inside, omega (arith, few, c.loop-i-test.true), l.invariant.1.short, listed-bound cols-at l.i are c.loop-i-test.true, scratch-long _ l.invariant.3)

pub loop-i-preserved : goal.loop-i-preserved
unfolding read_more
loop-i-preserved c =
    let from_at : Rows = c.args.from in
    let to_at : Rows = c.args.to in
    let cols-at : Columns = c.args.cols in
    let s-at : List ℕ = c.args.s.now in
    let body_at : ℕ = c.in-Ok.begin.cells in
    let column-at : Column = get_or cols-at.list c.loop-i.i no_column in
    let next-column : drop c.loop-i.i (listed cols-at) ≡ column-at ∷ drop (suc c.loop-i.i) (listed cols-at) = listed_next cols-at c.loop-i.i c.loop-i-test.true in
    let l = c.loop-i in
    let f = c.flag_of-flagged in
    let m = c.measure in
    let x = subst (MeasuredBy _ _ _ _ _ _ _ _ _) c.in-Ok-measure.is m.ensures.measured_by in (
      read_more from_at (listed cols-at) _ s-at body_at l.at l.i l.invariant.0 column-at next-column f.result f.ensures x.0 _
          (omega (arith, listed-length cols-at, c.loop-i-test.true)) x.1 x.2 x.3,
      measured-more to_at (listed cols-at) l.invariant.0.acc _ _ l.m _ l.i l.invariant.1 column-at next-column x.0 x.4,
      l.invariant.2,
      m.ensures.scratch_len_unchanged ∙ l.invariant.3,
    )

pub end_row-requires : goal.end_row-requires
end_row-requires c = c.loop-i.invariant.0.inside

pub overflow_add-size : goal.overflow_add-size
overflow_add-size c =
    let cols-at : Columns = c.args.cols in
    let are : Within (listed cols-at) = c.requires.0 in
    omega (arith, c.frame_size-around.ensures.0, c.loop-i.invariant.1.short, c.loop-i.invariant.0.upto, are.few)

pub overflow_sub-room : goal.overflow_sub-room
overflow_sub-room c = omega (arith, c.rows.invariant.0.room)

pub put_row-requires : goal.put_row-requires
put_row-requires c =
    let from_at : Rows = c.args.from in
    let to_at : Rows = c.args.to in
    let cols-at : Columns = c.args.cols in
    let s-at : List ℕ = c.args.s.now in
    let are : Within (listed cols-at) = c.requires.0 in
    let scratch-kept : length c.rows.scratch ≡ length c.args.scratch.now = c.rows.invariant.2 ∙ c.moved-first.ensures.scratch_len_unchanged in
    let flags-at : ℕ = c.in-Ok.begin.flags in
    let body_at : ℕ = c.in-Ok.begin.cells in
    let within : (c.rows.cursor.at ≤ body_at) × (body_at ≤ length s-at) = (
    let g = c.begin_row in
    begun-within from_at (listed cols-at) cols-at.count (listed-length cols-at) s-at c.rows.cursor.at g.result g.ensures c.in-Ok.begin
    c.in-Ok.is) in
    let scratch-long : (n : ℕ) → n ≡ length c.rows.scratch → scratch_length ≤ n = λ n e. omega (arith, e, scratch-kept, c.requires.1) in
    let row_at : List ℕ = (
    let l = c.loop-i in
    row_bytes to_at cols-at.count l.m.nulls (put_form from_at to_at cols-at flags-at (drop body_at s-at) l.scratch l.m.held)) in
    let size-at : length row_at ≡ c.frame_size-around.result + c.loop-i.m.size = (
    let l = c.loop-i in
    omega (
      arith,
      row-length from_at to_at cols-at flags-at s-at body_at l.at l.i l.invariant.0 l.scratch l.m l.invariant.1 (listed-length cols-at)
          c.loop-i-test.false c.in_default.is,
      c.frame_size-around.ensures.1 l.m.nulls,
    )) in
    let l = c.loop-i in
    record {
      within = (
        are,
        within.1,
        omega (arith, scratch-long _ l.invariant.3),
        held-ready from_at to_at cols-at flags-at s-at body_at l.at l.i l.invariant.0 l.scratch l.m l.invariant.1 (listed-length cols-at)
            c.loop-i-test.false,
      );
      holding_in_bounds = omega (arith, size-at, c.if-room-size.false, c.rows.invariant.0.room);
    }

pub overflow_sub-next : goal.overflow_sub-next
overflow_sub-next c =
    let from_at : Rows = c.args.from in
    let cols-at : Columns = c.args.cols in
    let s-at : List ℕ = c.args.s.now in
    let are : Within (listed cols-at) = c.requires.0 in
    let flags-at : ℕ = c.in-Ok.begin.flags in
    let body_at : ℕ = c.in-Ok.begin.cells in
    let begun : read_row from_at (listed cols-at) (drop c.rows.cursor.at s-at) ≡ cells_end from_at (listed cols-at) (flags_in from_at cols-at.count flags-at) (drop body_at s-at) = (
    let g = c.begin_row in
    row-begun from_at (listed cols-at) cols-at.count (listed-length cols-at) s-at c.rows.cursor.at g.result g.ensures c.in-Ok.begin
    c.in-Ok.is) in
    let past : length (listed cols-at) ≤ c.loop-i.i = omega (arith, listed-length cols-at, c.loop-i-test.false) in
    let all_read : read_cells from_at (listed cols-at) (flags_in from_at cols-at.count flags-at) 0 (drop body_at s-at) ≡ good (c.loop-i.invariant.0.acc, drop c.loop-i.at s-at) = (
    read-end from_at (listed cols-at) _ s-at body_at c.loop-i.at c.loop-i.i c.loop-i.invariant.0 past) in
    let next-at : ℕ = c.in-Ok-end_row.next in
    let whole : read_row from_at (listed cols-at) (drop c.rows.cursor.at s-at) ≡ good (c.loop-i.invariant.0.acc, drop next-at s-at) = (
    let z = c.end_row in
    begun ∙ cells-closed from_at (listed cols-at) _ s-at body_at _ _ all_read z.result z.ensures next-at c.in-Ok-end_row.is) in
    let onward : (c.rows.cursor.at < next-at) × (next-at ≤ length s-at) = (
    let z = c.end_row in
    let w = closed-within from_at s-at c.loop-i.at z.result z.ensures next-at c.in-Ok-end_row.is in
    (row-onward from_at (listed cols-at) s-at c.rows.cursor.at next-at _ are whole w.1, w.1)) in
    omega (arith, onward.0)

pub after-requires : goal.after-requires
after-requires c =
    let from_at : Rows = c.args.from in
    let cols-at : Columns = c.args.cols in
    let s-at : List ℕ = c.args.s.now in
    let are : Within (listed cols-at) = c.requires.0 in
    let flags-at : ℕ = c.in-Ok.begin.flags in
    let body_at : ℕ = c.in-Ok.begin.cells in
    let begun : read_row from_at (listed cols-at) (drop c.rows.cursor.at s-at) ≡ cells_end from_at (listed cols-at) (flags_in from_at cols-at.count flags-at) (drop body_at s-at) = (
    let g = c.begin_row in
    row-begun from_at (listed cols-at) cols-at.count (listed-length cols-at) s-at c.rows.cursor.at g.result g.ensures c.in-Ok.begin
    c.in-Ok.is) in
    let past : length (listed cols-at) ≤ c.loop-i.i = omega (arith, listed-length cols-at, c.loop-i-test.false) in
    let all_read : read_cells from_at (listed cols-at) (flags_in from_at cols-at.count flags-at) 0 (drop body_at s-at) ≡ good (c.loop-i.invariant.0.acc, drop c.loop-i.at s-at) = (
    read-end from_at (listed cols-at) _ s-at body_at c.loop-i.at c.loop-i.i c.loop-i.invariant.0 past) in
    let next-at : ℕ = c.in-Ok-end_row.next in
    let whole : read_row from_at (listed cols-at) (drop c.rows.cursor.at s-at) ≡ good (c.loop-i.invariant.0.acc, drop next-at s-at) = (
    let z = c.end_row in
    begun ∙ cells-closed from_at (listed cols-at) _ s-at body_at _ _ all_read z.result z.ensures next-at c.in-Ok-end_row.is) in
    let onward : (c.rows.cursor.at < next-at) × (next-at ≤ length s-at) = (
    let z = c.end_row in
    let w = closed-within from_at s-at c.loop-i.at z.result z.ensures next-at c.in-Ok-end_row.is in
    (row-onward from_at (listed cols-at) s-at c.rows.cursor.at next-at _ are whole w.1, w.1)) in
    let o = onward in
    omega (arith, o.0, o.1)

pub after-requires-in-rows : goal.after-requires-in-rows
after-requires-in-rows c =
    let from_at : Rows = c.args.from in
    let to_at : Rows = c.args.to in
    let cols-at : Columns = c.args.cols in
    let s-at : List ℕ = c.args.s.now in
    let out_at : List ℕ = c.args.out.now in
    let are : Within (listed cols-at) = c.requires.0 in
    let done_at : RowsDone from_at to_at (listed cols-at) s-at out_at c.rows.out c.rows.cursor.at c.rows.p.rows c.rows.p.bytes = (let m = c.moved-first in
    let n = c.start in
    let z = c.start-2 in
    let f = rows-further m.ensures.moves_rows.moved are (omega (arith, n.ensures)) (omega (arith, n.ensures, z.ensures.0)) in
    c.rows.invariant.0.further out_at (f.further out_at (rows_start from_at to_at (listed cols-at) s-at out_at _ _ _ n.ensures z.ensures))) in
    let flags-at : ℕ = c.in-Ok.begin.flags in
    let body_at : ℕ = c.in-Ok.begin.cells in
    let begun : read_row from_at (listed cols-at) (drop c.rows.cursor.at s-at) ≡ cells_end from_at (listed cols-at) (flags_in from_at cols-at.count flags-at) (drop body_at s-at) = (
    let g = c.begin_row in
    row-begun from_at (listed cols-at) cols-at.count (listed-length cols-at) s-at c.rows.cursor.at g.result g.ensures c.in-Ok.begin
    c.in-Ok.is) in
    let past : length (listed cols-at) ≤ c.loop-i.i = omega (arith, listed-length cols-at, c.loop-i-test.false) in
    let all_read : read_cells from_at (listed cols-at) (flags_in from_at cols-at.count flags-at) 0 (drop body_at s-at) ≡ good (c.loop-i.invariant.0.acc, drop c.loop-i.at s-at) = (
    read-end from_at (listed cols-at) _ s-at body_at c.loop-i.at c.loop-i.i c.loop-i.invariant.0 past) in
    let next-at : ℕ = c.in-Ok-end_row.next in
    let whole : read_row from_at (listed cols-at) (drop c.rows.cursor.at s-at) ≡ good (c.loop-i.invariant.0.acc, drop next-at s-at) = (
    let z = c.end_row in
    begun ∙ cells-closed from_at (listed cols-at) _ s-at body_at _ _ all_read z.result z.ensures next-at c.in-Ok-end_row.is) in
    let onward : (c.rows.cursor.at < next-at) × (next-at ≤ length s-at) = (
    let z = c.end_row in
    let w = closed-within from_at s-at c.loop-i.at z.result z.ensures next-at c.in-Ok-end_row.is in
    (row-onward from_at (listed cols-at) s-at c.rows.cursor.at next-at _ are whole w.1, w.1)) in
    let o = onward in (
      omega (arith, c.if-room-size.false, c.rows.invariant.0.room, done_at.long),
      omega (arith, c.rows.invariant.0.fewer, o.0, o.1),
    )

pub moved-more-requires : goal.moved-more-requires
moved-more-requires c =
    let from_at : Rows = c.args.from in
    let to_at : Rows = c.args.to in
    let cols-at : Columns = c.args.cols in
    let s-at : List ℕ = c.args.s.now in
    let out_at : List ℕ = c.args.out.now in
    let are : Within (listed cols-at) = c.requires.0 in
    let done_at : RowsDone from_at to_at (listed cols-at) s-at out_at c.rows.out c.rows.cursor.at c.rows.p.rows c.rows.p.bytes = (let m = c.moved-first in
    let n = c.start in
    let z = c.start-2 in
    let f = rows-further m.ensures.moves_rows.moved are (omega (arith, n.ensures)) (omega (arith, n.ensures, z.ensures.0)) in
    c.rows.invariant.0.further out_at (f.further out_at (rows_start from_at to_at (listed cols-at) s-at out_at _ _ _ n.ensures z.ensures))) in
    let scratch-kept : length c.rows.scratch ≡ length c.args.scratch.now = c.rows.invariant.2 ∙ c.moved-first.ensures.scratch_len_unchanged in
    let row_kept : length c.rows.row ≡ length c.args.row.now = c.rows.invariant.3 ∙ c.moved-first.ensures.row_len_unchanged in
    let left : at_end from_at (drop c.rows.cursor.at s-at) ≡ false = sym c.at_end.ensures ∙ c.rows-test.true in
    let flags-at : ℕ = c.in-Ok.begin.flags in
    let body_at : ℕ = c.in-Ok.begin.cells in
    let begun : read_row from_at (listed cols-at) (drop c.rows.cursor.at s-at) ≡ cells_end from_at (listed cols-at) (flags_in from_at cols-at.count flags-at) (drop body_at s-at) = (
    let g = c.begin_row in
    row-begun from_at (listed cols-at) cols-at.count (listed-length cols-at) s-at c.rows.cursor.at g.result g.ensures c.in-Ok.begin
    c.in-Ok.is) in
    let past : length (listed cols-at) ≤ c.loop-i.i = omega (arith, listed-length cols-at, c.loop-i-test.false) in
    let all_read : read_cells from_at (listed cols-at) (flags_in from_at cols-at.count flags-at) 0 (drop body_at s-at) ≡ good (c.loop-i.invariant.0.acc, drop c.loop-i.at s-at) = (
    read-end from_at (listed cols-at) _ s-at body_at c.loop-i.at c.loop-i.i c.loop-i.invariant.0 past) in
    let next-at : ℕ = c.in-Ok-end_row.next in
    let whole : read_row from_at (listed cols-at) (drop c.rows.cursor.at s-at) ≡ good (c.loop-i.invariant.0.acc, drop next-at s-at) = (
    let z = c.end_row in
    begun ∙ cells-closed from_at (listed cols-at) _ s-at body_at _ _ all_read z.result z.ensures next-at c.in-Ok-end_row.is) in
    let onward : (c.rows.cursor.at < next-at) × (next-at ≤ length s-at) = (
    let z = c.end_row in
    let w = closed-within from_at s-at c.loop-i.at z.result z.ensures next-at c.in-Ok-end_row.is in
    (row-onward from_at (listed cols-at) s-at c.rows.cursor.at next-at _ are whole w.1, w.1)) in
    let row_at : List ℕ = (
    let l = c.loop-i in
    row_bytes to_at cols-at.count l.m.nulls (put_form from_at to_at cols-at flags-at (drop body_at s-at) l.scratch l.m.held)) in
    let written_at : write_row to_at (listed cols-at) c.loop-i.invariant.0.acc ≡ good row_at = (
    let l = c.loop-i in
    row_wrote from_at to_at cols-at flags-at s-at body_at l.at l.i l.invariant.0 l.scratch l.m l.invariant.1 (listed-length cols-at)
    c.loop-i-test.false c.in_default.is) in
    let size-at : length row_at ≡ c.frame_size-around.result + c.loop-i.m.size = (
    let l = c.loop-i in
    omega (
      arith,
      row-length from_at to_at cols-at flags-at s-at body_at l.at l.i l.invariant.0 l.scratch l.m l.invariant.1 (listed-length cols-at)
          c.loop-i-test.false c.in_default.is,
      c.frame_size-around.ensures.1 l.m.nulls,
    )) in
    let cursor-moves : c.after.result.at ≡ next-at = omega (arith, onward.0, c.after.ensures) in
    let out-behind : List ℕ = c.put_row.new.out in
    let row-behind : (o : List ℕ) → RowsDone from_at to_at (listed cols-at) s-at o c.rows.out c.rows.cursor.at c.rows.p.rows c.rows.p.bytes
    → RowsDone from_at to_at (listed cols-at) s-at o out-behind c.after.result.at c.after-in-rows.result.rows c.after-in-rows.result.bytes = λ o d. (
    let l = c.loop-i in
    let n = onward in
    let w = c.put_row.ensures in
    row_done from_at to_at (listed cols-at) are s-at o c.rows.out c.rows.cursor.at c.rows.p.rows c.rows.p.bytes d left
    l.invariant.0.acc _
    whole row_at written_at (omega (arith, size-at, c.if-room-size.false)) _ refl n.0 n.1 _
    w.wrote.now-is _ _ _ cursor-moves c.after-in-rows.ensures.0
    (c.after-in-rows.ensures.1 ∙ ap (λ (k : ℕ). c.rows.p.bytes + k) (sym size-at))) in
    let scratch-behind : length c.put_row.new.scratch ≡ length c.rows.scratch = c.put_row.ensures.scratch_len_unchanged ∙ c.loop-i.invariant.3 in
    let d = row-behind out_at done_at in
    record {
      within = (are, omega (arith, scratch-behind, scratch-kept, c.requires.1), omega (arith, row_kept, c.requires.2));
      at_in_bounds = (d.inside, d.fewer, d.room);
    }

pub rows-smaller : goal.rows-smaller
rows-smaller c =
    let from_at : Rows = c.args.from in
    let to_at : Rows = c.args.to in
    let cols-at : Columns = c.args.cols in
    let s-at : List ℕ = c.args.s.now in
    let out_at : List ℕ = c.args.out.now in
    let are : Within (listed cols-at) = c.requires.0 in
    let done_at : RowsDone from_at to_at (listed cols-at) s-at out_at c.rows.out c.rows.cursor.at c.rows.p.rows c.rows.p.bytes = (let m = c.moved-first in
    let n = c.start in
    let z = c.start-2 in
    let f = rows-further m.ensures.moves_rows.moved are (omega (arith, n.ensures)) (omega (arith, n.ensures, z.ensures.0)) in
    c.rows.invariant.0.further out_at (f.further out_at (rows_start from_at to_at (listed cols-at) s-at out_at _ _ _ n.ensures z.ensures))) in
    let left : at_end from_at (drop c.rows.cursor.at s-at) ≡ false = sym c.at_end.ensures ∙ c.rows-test.true in
    let flags-at : ℕ = c.in-Ok.begin.flags in
    let body_at : ℕ = c.in-Ok.begin.cells in
    let begun : read_row from_at (listed cols-at) (drop c.rows.cursor.at s-at) ≡ cells_end from_at (listed cols-at) (flags_in from_at cols-at.count flags-at) (drop body_at s-at) = (
    let g = c.begin_row in
    row-begun from_at (listed cols-at) cols-at.count (listed-length cols-at) s-at c.rows.cursor.at g.result g.ensures c.in-Ok.begin
    c.in-Ok.is) in
    let past : length (listed cols-at) ≤ c.loop-i.i = omega (arith, listed-length cols-at, c.loop-i-test.false) in
    let all_read : read_cells from_at (listed cols-at) (flags_in from_at cols-at.count flags-at) 0 (drop body_at s-at) ≡ good (c.loop-i.invariant.0.acc, drop c.loop-i.at s-at) = (
    read-end from_at (listed cols-at) _ s-at body_at c.loop-i.at c.loop-i.i c.loop-i.invariant.0 past) in
    let next-at : ℕ = c.in-Ok-end_row.next in
    let whole : read_row from_at (listed cols-at) (drop c.rows.cursor.at s-at) ≡ good (c.loop-i.invariant.0.acc, drop next-at s-at) = (
    let z = c.end_row in
    begun ∙ cells-closed from_at (listed cols-at) _ s-at body_at _ _ all_read z.result z.ensures next-at c.in-Ok-end_row.is) in
    let onward : (c.rows.cursor.at < next-at) × (next-at ≤ length s-at) = (
    let z = c.end_row in
    let w = closed-within from_at s-at c.loop-i.at z.result z.ensures next-at c.in-Ok-end_row.is in
    (row-onward from_at (listed cols-at) s-at c.rows.cursor.at next-at _ are whole w.1, w.1)) in
    let row_at : List ℕ = (
    let l = c.loop-i in
    row_bytes to_at cols-at.count l.m.nulls (put_form from_at to_at cols-at flags-at (drop body_at s-at) l.scratch l.m.held)) in
    let written_at : write_row to_at (listed cols-at) c.loop-i.invariant.0.acc ≡ good row_at = (
    let l = c.loop-i in
    row_wrote from_at to_at cols-at flags-at s-at body_at l.at l.i l.invariant.0 l.scratch l.m l.invariant.1 (listed-length cols-at)
    c.loop-i-test.false c.in_default.is) in
    let size-at : length row_at ≡ c.frame_size-around.result + c.loop-i.m.size = (
    let l = c.loop-i in
    omega (
      arith,
      row-length from_at to_at cols-at flags-at s-at body_at l.at l.i l.invariant.0 l.scratch l.m l.invariant.1 (listed-length cols-at)
          c.loop-i-test.false c.in_default.is,
      c.frame_size-around.ensures.1 l.m.nulls,
    )) in
    let cursor-moves : c.after.result.at ≡ next-at = omega (arith, onward.0, c.after.ensures) in
    let out-behind : List ℕ = c.put_row.new.out in
    let row-behind : (o : List ℕ) → RowsDone from_at to_at (listed cols-at) s-at o c.rows.out c.rows.cursor.at c.rows.p.rows c.rows.p.bytes
    → RowsDone from_at to_at (listed cols-at) s-at o out-behind c.after.result.at c.after-in-rows.result.rows c.after-in-rows.result.bytes = λ o d. (
    let l = c.loop-i in
    let n = onward in
    let w = c.put_row.ensures in
    row_done from_at to_at (listed cols-at) are s-at o c.rows.out c.rows.cursor.at c.rows.p.rows c.rows.p.bytes d left
    l.invariant.0.acc _
    whole row_at written_at (omega (arith, size-at, c.if-room-size.false)) _ refl n.0 n.1 _
    w.wrote.now-is _ _ _ cursor-moves c.after-in-rows.ensures.0
    (c.after-in-rows.ensures.1 ∙ ap (λ (k : ℕ). c.rows.p.bytes + k) (sym size-at))) in
    let more-done : let m = c.moved-more in RowsFurther from_at to_at (listed cols-at) s-at out-behind c.after.result.at c.after-in-rows.result.rows c.after-in-rows.result.bytes m.new.out
    m.result.place m.result.rows m.result.bytes = (
    let d = row-behind out_at done_at in
    rows-further c.moved-more.ensures.moves_rows.moved are d.inside d.fewer) in
    let n = onward in
    let m = more-done in
    omega (arith, n.0, n.1, cursor-moves, m.onward, m.inside)

pub rows-preserved : goal.rows-preserved
rows-preserved c =
    let from_at : Rows = c.args.from in
    let to_at : Rows = c.args.to in
    let cols-at : Columns = c.args.cols in
    let s-at : List ℕ = c.args.s.now in
    let out_at : List ℕ = c.args.out.now in
    let are : Within (listed cols-at) = c.requires.0 in
    let done_at : RowsDone from_at to_at (listed cols-at) s-at out_at c.rows.out c.rows.cursor.at c.rows.p.rows c.rows.p.bytes = (let m = c.moved-first in
    let n = c.start in
    let z = c.start-2 in
    let f = rows-further m.ensures.moves_rows.moved are (omega (arith, n.ensures)) (omega (arith, n.ensures, z.ensures.0)) in
    c.rows.invariant.0.further out_at (f.further out_at (rows_start from_at to_at (listed cols-at) s-at out_at _ _ _ n.ensures z.ensures))) in
    let left : at_end from_at (drop c.rows.cursor.at s-at) ≡ false = sym c.at_end.ensures ∙ c.rows-test.true in
    let flags-at : ℕ = c.in-Ok.begin.flags in
    let body_at : ℕ = c.in-Ok.begin.cells in
    let begun : read_row from_at (listed cols-at) (drop c.rows.cursor.at s-at) ≡ cells_end from_at (listed cols-at) (flags_in from_at cols-at.count flags-at) (drop body_at s-at) = (
    let g = c.begin_row in
    row-begun from_at (listed cols-at) cols-at.count (listed-length cols-at) s-at c.rows.cursor.at g.result g.ensures c.in-Ok.begin
    c.in-Ok.is) in
    let past : length (listed cols-at) ≤ c.loop-i.i = omega (arith, listed-length cols-at, c.loop-i-test.false) in
    let all_read : read_cells from_at (listed cols-at) (flags_in from_at cols-at.count flags-at) 0 (drop body_at s-at) ≡ good (c.loop-i.invariant.0.acc, drop c.loop-i.at s-at) = (
    read-end from_at (listed cols-at) _ s-at body_at c.loop-i.at c.loop-i.i c.loop-i.invariant.0 past) in
    let next-at : ℕ = c.in-Ok-end_row.next in
    let whole : read_row from_at (listed cols-at) (drop c.rows.cursor.at s-at) ≡ good (c.loop-i.invariant.0.acc, drop next-at s-at) = (
    let z = c.end_row in
    begun ∙ cells-closed from_at (listed cols-at) _ s-at body_at _ _ all_read z.result z.ensures next-at c.in-Ok-end_row.is) in
    let onward : (c.rows.cursor.at < next-at) × (next-at ≤ length s-at) = (
    let z = c.end_row in
    let w = closed-within from_at s-at c.loop-i.at z.result z.ensures next-at c.in-Ok-end_row.is in
    (row-onward from_at (listed cols-at) s-at c.rows.cursor.at next-at _ are whole w.1, w.1)) in
    let row_at : List ℕ = (
    let l = c.loop-i in
    row_bytes to_at cols-at.count l.m.nulls (put_form from_at to_at cols-at flags-at (drop body_at s-at) l.scratch l.m.held)) in
    let written_at : write_row to_at (listed cols-at) c.loop-i.invariant.0.acc ≡ good row_at = (
    let l = c.loop-i in
    row_wrote from_at to_at cols-at flags-at s-at body_at l.at l.i l.invariant.0 l.scratch l.m l.invariant.1 (listed-length cols-at)
    c.loop-i-test.false c.in_default.is) in
    let size-at : length row_at ≡ c.frame_size-around.result + c.loop-i.m.size = (
    let l = c.loop-i in
    omega (
      arith,
      row-length from_at to_at cols-at flags-at s-at body_at l.at l.i l.invariant.0 l.scratch l.m l.invariant.1 (listed-length cols-at)
          c.loop-i-test.false c.in_default.is,
      c.frame_size-around.ensures.1 l.m.nulls,
    )) in
    let cursor-moves : c.after.result.at ≡ next-at = omega (arith, onward.0, c.after.ensures) in
    let out-behind : List ℕ = c.put_row.new.out in
    let row-behind : (o : List ℕ) → RowsDone from_at to_at (listed cols-at) s-at o c.rows.out c.rows.cursor.at c.rows.p.rows c.rows.p.bytes
    → RowsDone from_at to_at (listed cols-at) s-at o out-behind c.after.result.at c.after-in-rows.result.rows c.after-in-rows.result.bytes = λ o d. (
    let l = c.loop-i in
    let n = onward in
    let w = c.put_row.ensures in
    row_done from_at to_at (listed cols-at) are s-at o c.rows.out c.rows.cursor.at c.rows.p.rows c.rows.p.bytes d left
    l.invariant.0.acc _
    whole row_at written_at (omega (arith, size-at, c.if-room-size.false)) _ refl n.0 n.1 _
    w.wrote.now-is _ _ _ cursor-moves c.after-in-rows.ensures.0
    (c.after-in-rows.ensures.1 ∙ ap (λ (k : ℕ). c.rows.p.bytes + k) (sym size-at))) in
    let scratch-behind : length c.put_row.new.scratch ≡ length c.rows.scratch = c.put_row.ensures.scratch_len_unchanged ∙ c.loop-i.invariant.3 in
    let more-done : let m = c.moved-more in RowsFurther from_at to_at (listed cols-at) s-at out-behind c.after.result.at c.after-in-rows.result.rows c.after-in-rows.result.bytes m.new.out
    m.result.place m.result.rows m.result.bytes = (
    let d = row-behind out_at done_at in
    rows-further c.moved-more.ensures.moves_rows.moved are d.inside d.fewer) in
    let m = c.moved-more.ensures in
    let d = more-done in
    let i = c.rows.invariant.0 in (
      record {
        inside = d.inside;
        fewer = d.fewer;
        room = d.room;
        long = d.long ∙ wrote-long c.put_row.ensures.wrote ∙ i.long;
        onward = omega (arith, i.onward, onward.0, cursor-moves, d.onward);
        further = λ o before. d.further o (row-behind o (i.further o before));
      },
      c.loop-i.invariant.2 ∙ c.rows.invariant.1,
      m.scratch_len_unchanged ∙ scratch-behind ∙ c.rows.invariant.2,
      m.row_len_unchanged ∙ c.rows.invariant.3,
    )

pub returns-after-rows : goal.returns-after-rows
returns-after-rows c =
    let from_at : Rows = c.args.from in
    let to_at : Rows = c.args.to in
    let cols-at : Columns = c.args.cols in
    let s-at : List ℕ = c.args.s.now in
    let out_at : List ℕ = c.args.out.now in
    let are : Within (listed cols-at) = c.requires.0 in
    let done_at : RowsDone from_at to_at (listed cols-at) s-at out_at c.rows.out c.rows.cursor.at c.rows.p.rows c.rows.p.bytes = (let m = c.moved-first in
    let n = c.start in
    let z = c.start-2 in
    let f = rows-further m.ensures.moves_rows.moved are (omega (arith, n.ensures)) (omega (arith, n.ensures, z.ensures.0)) in
    c.rows.invariant.0.further out_at (f.further out_at (rows_start from_at to_at (listed cols-at) s-at out_at _ _ _ n.ensures z.ensures))) in
    let d = acceptance from_at to_at (listed cols-at) are s-at out_at c.rows.out c.rows.cursor.at c.rows.p.rows c.rows.p.bytes done_at
    (sym c.at_end.ensures ∙ c.rows-test.false) in record { answer_value = rw c.rows.invariant.1 d.answers; place_value = rw c.rows.invariant.1 d.stands; out_after = d.leaves }

pub returns-in-Err : goal.returns-in-Err
unfolding at
returns-in-Err c =
    let from_at : Rows = c.args.from in
    let to_at : Rows = c.args.to in
    let cols-at : Columns = c.args.cols in
    let s-at : List ℕ = c.args.s.now in
    let out_at : List ℕ = c.args.out.now in
    let are : Within (listed cols-at) = c.requires.0 in
    let done_at : RowsDone from_at to_at (listed cols-at) s-at out_at c.rows.out c.rows.cursor.at c.rows.p.rows c.rows.p.bytes = (let m = c.moved-first in
    let n = c.start in
    let z = c.start-2 in
    let f = rows-further m.ensures.moves_rows.moved are (omega (arith, n.ensures)) (omega (arith, n.ensures, z.ensures.0)) in
    c.rows.invariant.0.further out_at (f.further out_at (rows_start from_at to_at (listed cols-at) s-at out_at _ _ _ n.ensures z.ensures))) in
    let left : at_end from_at (drop c.rows.cursor.at s-at) ≡ false = sym c.at_end.ensures ∙ c.rows-test.true in
    let stopped : (n k : ℕ) → read_row from_at (listed cols-at) (drop c.rows.cursor.at s-at) ≡ bad (at k n)
    → Finished from_at to_at (listed cols-at) s-at out_at c.rows.out
    (record { number = n; row = c.rows.p.rows; column = k; rows = c.rows.p.rows; bytes = c.rows.p.bytes }) c.rows.cursor.at = λ n k e. (
    read-refusal from_at to_at (listed cols-at) are s-at out_at c.rows.out c.rows.cursor.at c.rows.p.rows c.rows.p.bytes done_at left (at k n) e) in
    let g = c.begin_row in
    let d = stopped _ 0 (row-unbegun from_at (listed cols-at) cols-at.count (listed-length cols-at) s-at c.rows.cursor.at g.result g.ensures
    c.in-Err.reason c.in-Err.is) in record { answer_value = rw c.number.ensures d.answers; place_value = d.stands; out_after = d.leaves }

pub returns-in-Err-measure : goal.returns-in-Err-measure
unfolding at
returns-in-Err-measure c =
    let from_at : Rows = c.args.from in
    let to_at : Rows = c.args.to in
    let cols-at : Columns = c.args.cols in
    let s-at : List ℕ = c.args.s.now in
    let out_at : List ℕ = c.args.out.now in
    let are : Within (listed cols-at) = c.requires.0 in
    let done_at : RowsDone from_at to_at (listed cols-at) s-at out_at c.rows.out c.rows.cursor.at c.rows.p.rows c.rows.p.bytes = (let m = c.moved-first in
    let n = c.start in
    let z = c.start-2 in
    let f = rows-further m.ensures.moves_rows.moved are (omega (arith, n.ensures)) (omega (arith, n.ensures, z.ensures.0)) in
    c.rows.invariant.0.further out_at (f.further out_at (rows_start from_at to_at (listed cols-at) s-at out_at _ _ _ n.ensures z.ensures))) in
    let left : at_end from_at (drop c.rows.cursor.at s-at) ≡ false = sym c.at_end.ensures ∙ c.rows-test.true in
    let flags-at : ℕ = c.in-Ok.begin.flags in
    let body_at : ℕ = c.in-Ok.begin.cells in
    let begun : read_row from_at (listed cols-at) (drop c.rows.cursor.at s-at) ≡ cells_end from_at (listed cols-at) (flags_in from_at cols-at.count flags-at) (drop body_at s-at) = (
    let g = c.begin_row in
    row-begun from_at (listed cols-at) cols-at.count (listed-length cols-at) s-at c.rows.cursor.at g.result g.ensures c.in-Ok.begin
    c.in-Ok.is) in
    let column-at : Column = get_or cols-at.list c.loop-i.i no_column in
    let next-column : drop c.loop-i.i (listed cols-at) ≡ column-at ∷ drop (suc c.loop-i.i) (listed cols-at) = listed_next cols-at c.loop-i.i c.loop-i-test.true in
    let stopped : (n k : ℕ) → read_row from_at (listed cols-at) (drop c.rows.cursor.at s-at) ≡ bad (at k n)
    → Finished from_at to_at (listed cols-at) s-at out_at c.rows.out
    (record { number = n; row = c.rows.p.rows; column = k; rows = c.rows.p.rows; bytes = c.rows.p.bytes }) c.rows.cursor.at = λ n k e. (
    read-refusal from_at to_at (listed cols-at) are s-at out_at c.rows.out c.rows.cursor.at c.rows.p.rows c.rows.p.bytes done_at left (at k n) e) in
    let l = c.loop-i in
    let f = c.flag_of-flagged in
    let x = subst (MeasuredBy _ _ _ _ _ _ _ _ _) c.in-Err-measure.is c.measure.ensures.measured_by in
    let q = read-stop from_at (listed cols-at) _ s-at body_at l.at l.i l.invariant.0 column-at next-column f.result f.ensures _ x in
    let d = stopped _ l.i (begun ∙ cells-stopped from_at (listed cols-at) _ s-at body_at _ q) in record { answer_value = rw c.number-in-Err-measure.ensures d.answers; place_value = d.stands; out_after = d.leaves }

pub returns-in-Err-end_row : goal.returns-in-Err-end_row
unfolding at
returns-in-Err-end_row c =
    let from_at : Rows = c.args.from in
    let to_at : Rows = c.args.to in
    let cols-at : Columns = c.args.cols in
    let s-at : List ℕ = c.args.s.now in
    let out_at : List ℕ = c.args.out.now in
    let are : Within (listed cols-at) = c.requires.0 in
    let done_at : RowsDone from_at to_at (listed cols-at) s-at out_at c.rows.out c.rows.cursor.at c.rows.p.rows c.rows.p.bytes = (let m = c.moved-first in
    let n = c.start in
    let z = c.start-2 in
    let f = rows-further m.ensures.moves_rows.moved are (omega (arith, n.ensures)) (omega (arith, n.ensures, z.ensures.0)) in
    c.rows.invariant.0.further out_at (f.further out_at (rows_start from_at to_at (listed cols-at) s-at out_at _ _ _ n.ensures z.ensures))) in
    let left : at_end from_at (drop c.rows.cursor.at s-at) ≡ false = sym c.at_end.ensures ∙ c.rows-test.true in
    let flags-at : ℕ = c.in-Ok.begin.flags in
    let body_at : ℕ = c.in-Ok.begin.cells in
    let begun : read_row from_at (listed cols-at) (drop c.rows.cursor.at s-at) ≡ cells_end from_at (listed cols-at) (flags_in from_at cols-at.count flags-at) (drop body_at s-at) = (
    let g = c.begin_row in
    row-begun from_at (listed cols-at) cols-at.count (listed-length cols-at) s-at c.rows.cursor.at g.result g.ensures c.in-Ok.begin
    c.in-Ok.is) in
    let stopped : (n k : ℕ) → read_row from_at (listed cols-at) (drop c.rows.cursor.at s-at) ≡ bad (at k n)
    → Finished from_at to_at (listed cols-at) s-at out_at c.rows.out
    (record { number = n; row = c.rows.p.rows; column = k; rows = c.rows.p.rows; bytes = c.rows.p.bytes }) c.rows.cursor.at = λ n k e. (
    read-refusal from_at to_at (listed cols-at) are s-at out_at c.rows.out c.rows.cursor.at c.rows.p.rows c.rows.p.bytes done_at left (at k n) e) in
    let past : length (listed cols-at) ≤ c.loop-i.i = omega (arith, listed-length cols-at, c.loop-i-test.false) in
    let all_read : read_cells from_at (listed cols-at) (flags_in from_at cols-at.count flags-at) 0 (drop body_at s-at) ≡ good (c.loop-i.invariant.0.acc, drop c.loop-i.at s-at) = (
    read-end from_at (listed cols-at) _ s-at body_at c.loop-i.at c.loop-i.i c.loop-i.invariant.0 past) in
    let e = c.end_row in
    let q = cells_open from_at (listed cols-at) _ s-at body_at _ _ all_read e.result e.ensures c.in-Err-end_row.reason c.in-Err-end_row.is in
    let d = stopped _ cols-at.count (begun ∙ q ∙ ap (λ (k : ℕ). bad (at k (number_of c.in-Err-end_row.reason))) (listed-length cols-at)) in
    record { answer_value = rw c.number-in-Err-end_row.ensures d.answers; place_value = d.stands; out_after = d.leaves }

pub returns-in-Some : goal.returns-in-Some
unfolding at
returns-in-Some c =
    let from_at : Rows = c.args.from in
    let to_at : Rows = c.args.to in
    let cols-at : Columns = c.args.cols in
    let s-at : List ℕ = c.args.s.now in
    let out_at : List ℕ = c.args.out.now in
    let are : Within (listed cols-at) = c.requires.0 in
    let done_at : RowsDone from_at to_at (listed cols-at) s-at out_at c.rows.out c.rows.cursor.at c.rows.p.rows c.rows.p.bytes = (let m = c.moved-first in
    let n = c.start in
    let z = c.start-2 in
    let f = rows-further m.ensures.moves_rows.moved are (omega (arith, n.ensures)) (omega (arith, n.ensures, z.ensures.0)) in
    c.rows.invariant.0.further out_at (f.further out_at (rows_start from_at to_at (listed cols-at) s-at out_at _ _ _ n.ensures z.ensures))) in
    let left : at_end from_at (drop c.rows.cursor.at s-at) ≡ false = sym c.at_end.ensures ∙ c.rows-test.true in
    let flags-at : ℕ = c.in-Ok.begin.flags in
    let body_at : ℕ = c.in-Ok.begin.cells in
    let begun : read_row from_at (listed cols-at) (drop c.rows.cursor.at s-at) ≡ cells_end from_at (listed cols-at) (flags_in from_at cols-at.count flags-at) (drop body_at s-at) = (
    let g = c.begin_row in
    row-begun from_at (listed cols-at) cols-at.count (listed-length cols-at) s-at c.rows.cursor.at g.result g.ensures c.in-Ok.begin
    c.in-Ok.is) in
    let past : length (listed cols-at) ≤ c.loop-i.i = omega (arith, listed-length cols-at, c.loop-i-test.false) in
    let all_read : read_cells from_at (listed cols-at) (flags_in from_at cols-at.count flags-at) 0 (drop body_at s-at) ≡ good (c.loop-i.invariant.0.acc, drop c.loop-i.at s-at) = (
    read-end from_at (listed cols-at) _ s-at body_at c.loop-i.at c.loop-i.i c.loop-i.invariant.0 past) in
    let next-at : ℕ = c.in-Ok-end_row.next in
    let whole : read_row from_at (listed cols-at) (drop c.rows.cursor.at s-at) ≡ good (c.loop-i.invariant.0.acc, drop next-at s-at) = (
    let z = c.end_row in
    begun ∙ cells-closed from_at (listed cols-at) _ s-at body_at _ _ all_read z.result z.ensures next-at c.in-Ok-end_row.is) in
    let l = c.loop-i in
    let q = row-cannot from_at to_at cols-at flags-at s-at body_at l.at l.i l.invariant.0 l.scratch l.m l.invariant.1 (listed-length cols-at)
    c.loop-i-test.false _ c.in-Some.is in
    let d = write-refusal from_at to_at (listed cols-at) are s-at out_at c.rows.out c.rows.cursor.at c.rows.p.rows c.rows.p.bytes done_at
    left
    l.invariant.0.acc _ whole _ q in record { answer_value = rw c.number-in-Some.ensures d.answers; place_value = d.stands; out_after = d.leaves }

pub returns-then-room-size : goal.returns-then-room-size
returns-then-room-size c =
    let from_at : Rows = c.args.from in
    let to_at : Rows = c.args.to in
    let cols-at : Columns = c.args.cols in
    let s-at : List ℕ = c.args.s.now in
    let out_at : List ℕ = c.args.out.now in
    let are : Within (listed cols-at) = c.requires.0 in
    let done_at : RowsDone from_at to_at (listed cols-at) s-at out_at c.rows.out c.rows.cursor.at c.rows.p.rows c.rows.p.bytes = (let m = c.moved-first in
    let n = c.start in
    let z = c.start-2 in
    let f = rows-further m.ensures.moves_rows.moved are (omega (arith, n.ensures)) (omega (arith, n.ensures, z.ensures.0)) in
    c.rows.invariant.0.further out_at (f.further out_at (rows_start from_at to_at (listed cols-at) s-at out_at _ _ _ n.ensures z.ensures))) in
    let left : at_end from_at (drop c.rows.cursor.at s-at) ≡ false = sym c.at_end.ensures ∙ c.rows-test.true in
    let flags-at : ℕ = c.in-Ok.begin.flags in
    let body_at : ℕ = c.in-Ok.begin.cells in
    let begun : read_row from_at (listed cols-at) (drop c.rows.cursor.at s-at) ≡ cells_end from_at (listed cols-at) (flags_in from_at cols-at.count flags-at) (drop body_at s-at) = (
    let g = c.begin_row in
    row-begun from_at (listed cols-at) cols-at.count (listed-length cols-at) s-at c.rows.cursor.at g.result g.ensures c.in-Ok.begin
    c.in-Ok.is) in
    let past : length (listed cols-at) ≤ c.loop-i.i = omega (arith, listed-length cols-at, c.loop-i-test.false) in
    let all_read : read_cells from_at (listed cols-at) (flags_in from_at cols-at.count flags-at) 0 (drop body_at s-at) ≡ good (c.loop-i.invariant.0.acc, drop c.loop-i.at s-at) = (
    read-end from_at (listed cols-at) _ s-at body_at c.loop-i.at c.loop-i.i c.loop-i.invariant.0 past) in
    let next-at : ℕ = c.in-Ok-end_row.next in
    let whole : read_row from_at (listed cols-at) (drop c.rows.cursor.at s-at) ≡ good (c.loop-i.invariant.0.acc, drop next-at s-at) = (
    let z = c.end_row in
    begun ∙ cells-closed from_at (listed cols-at) _ s-at body_at _ _ all_read z.result z.ensures next-at c.in-Ok-end_row.is) in
    let row_at : List ℕ = (
    let l = c.loop-i in
    row_bytes to_at cols-at.count l.m.nulls (put_form from_at to_at cols-at flags-at (drop body_at s-at) l.scratch l.m.held)) in
    let written_at : write_row to_at (listed cols-at) c.loop-i.invariant.0.acc ≡ good row_at = (
    let l = c.loop-i in
    row_wrote from_at to_at cols-at flags-at s-at body_at l.at l.i l.invariant.0 l.scratch l.m l.invariant.1 (listed-length cols-at)
    c.loop-i-test.false c.in_default.is) in
    let size-at : length row_at ≡ c.frame_size-around.result + c.loop-i.m.size = (
    let l = c.loop-i in
    omega (
      arith,
      row-length from_at to_at cols-at flags-at s-at body_at l.at l.i l.invariant.0 l.scratch l.m l.invariant.1 (listed-length cols-at)
          c.loop-i-test.false c.in_default.is,
      c.frame_size-around.ensures.1 l.m.nulls,
    )) in
    let d = room-refusal from_at to_at (listed cols-at) are s-at out_at c.rows.out c.rows.cursor.at c.rows.p.rows c.rows.p.bytes done_at
    left
    c.loop-i.invariant.0.acc _ whole row_at written_at
    (omega (arith, size-at, c.if-room-size.true)) in record { answer_value = rw c.number-then-room-size.ensures d.answers; place_value = d.stands; out_after = d.leaves }
