-- row_moving::move_rows: rows made in the buffer and copied. Over columns: what is read of the row is what has been read and what is still to come
-- (RowRead), and its cells stand in the buffer as they are written (RowMoved). Over rows: some rows more are moved (RowsMoved). A way out gives back
-- what was done before, and says why no row is moved there (Stopping).
use Rattle.std.specs.Prelude.{Some, None}
use Prim.Native.Nat.{◌+◌, ◌-◌, ◌<◌, ◌≤◌, suc, ℕ}
use mathlib.Core.Bool.{Bool}
use mathlib.Core.List.{List, [], ◌++◌, ◌∷◌}
use mathlib.Core.Logic.{⊎_elim}
use mathlib.Core.Path.{◌∙◌, ◌≡◌, ap, refl, subst, sym}
use lib.ListN.{drop, get_or, length, length-append, take}
use lib.Seq.{length-take-le}
use native.Mathlib.Omega.{arith}
use borrow.Author.Rules.{rules}
use Rattle.binary.specs.Binary.{flag_bit}
use Rattle.moving.proofs.Cells.{settled-after}
use Rattle.moving.proofs.Written.{rows-further, rows_more, rows_none}
use Rattle.moving.specs.Cells.{CellLeft, CellMoved, MovesCell, SettlesCell}
use Rattle.moving.specs.Puts.{Puts}
use Rattle.moving.specs.Rows.{RowLeft, RowsMoved}
use Rattle.moving.specs.declared.Moved.{Moved}
use Rattle.number.specs.Number.{to_digits}
use Rattle.planning.proofs.Steps.{listed-bounded, plan-at, step-most}
use Rattle.planning.specs.Plan.{no_step, step_of}
use Rattle.planning.specs.declared.Plan.{Plan}
use Rattle.planning.specs.declared.Step.{Step}
use Rattle.row_moving.proofs.Moving.{RowMoved, moved_more, moved_row, moved-start}
use Rattle.row_moving.proofs.Stopping.{cell-left, full-left, long-left, unread-left}
use Rattle.row_moving.specs.Clauses.{FramedAs}
use Rattle.row_reading.proofs.Parts.{RowRead, begun-within, cells-closed, cells_open, closed-within, listed-bound}
use Rattle.row_reading.proofs.Parts.{read-end, read_more, read-start, row-begun, row-onward, row-unbegun}
use Rattle.row_reading.specs.Clauses.{cells_end, flags_in}
use Rattle.row_writing.specs.Clauses.{start_bytes}
use Rattle.rows.specs.Bounds.{Within}
use Rattle.rows.specs.Stream.{read_row, write_end, write_row}
use Rattle.table.proofs.ColumnList.{listed-length, listed_next}
use Rattle.table.proofs.Wrote.{wrote_as, wrote-long}
use Rattle.table.specs.ColumnList.{listed, no_column}
use Rattle.table.specs.Result.{good}
use Rattle.table.specs.declared.Column.{Column}
use Rattle.table.specs.declared.Columns.{Columns}
use Rattle.table.specs.declared.Rows.{Rows}
use Rattle.row_moving.proofs.move_rows.Goals as goal
use Rattle.row_moving.proofs.move_rows.Goals.{in-None+in-Some-move_cell, in-Some}

pub start_size-first-requires : goal.start_size-first-requires
start_size-first-requires c = omega (arith, c.requires.within.0.few, listed-length c.args.cols)

pub plan_of-plan-requires : goal.plan_of-plan-requires
plan_of-plan-requires c = c.requires.within.0

pub rows-init : goal.rows-init
rows-init c =
    (rows_none c.args.from c.args.to (listed c.args.cols) c.args.s.now _ _ _ _ c.requires.place_in_bounds.0 c.requires.place_in_bounds.2, refl, refl)

pub begin_quickly-requires : goal.begin_quickly-requires
begin_quickly-requires c =
    let cols-at : Columns = c.args.cols in
    let are : Within (listed cols-at) = c.requires.within.0 in
    let few : cols-at.count ≤ 64 = omega (arith, are.few, listed-length cols-at) in
    (c.rows.invariant.0.inside, omega (arith, are.some, listed-length cols-at), few)

pub loop-i-init : goal.loop-i-init
unfolding read-start
loop-i-init c =
    let from_at : Rows = c.args.from in
    let to_at : Rows = c.args.to in
    let cols-at : Columns = c.args.cols in
    let s-at : List ℕ = c.args.s.now in
    let flags-at : ℕ = c.in-Ok.begun.flags in
    let body_at : ℕ = c.in-Ok.begun.cells in
    let within : (c.rows.place ≤ body_at) × (body_at ≤ length s-at) = (
    let g = c.begin_quickly in
    begun-within from_at (listed cols-at) cols-at.count (listed-length cols-at) s-at c.rows.place g.result g.ensures c.in-Ok.begun c.in-Ok.is) in
    let roomy : c.start_size-first.result ≤ length c.rows.row = omega (arith, c.start_size-first.ensures.0, c.rows.invariant.2, c.requires.within.2) in
    (read-start from_at (listed cols-at) _ s-at body_at within.1, moved-start to_at (listed cols-at) c.rows.row _ roomy, refl)

pub flag_of-flagged-requires : goal.flag_of-flagged-requires
flag_of-flagged-requires c =
    let cols-at : Columns = c.args.cols in
    let are : Within (listed cols-at) = c.requires.within.0 in
    let few : cols-at.count ≤ 64 = omega (arith, are.few, listed-length cols-at) in
    (c.loop-i-test.true, few)

pub offset_bounds-plan-i : goal.offset_bounds-plan-i
offset_bounds-plan-i c =
    let cols-at : Columns = c.args.cols in
    let are : Within (listed cols-at) = c.requires.within.0 in
    let few : cols-at.count ≤ 64 = omega (arith, are.few, listed-length cols-at) in
    let few-turns : c.loop-i.i < 64 = omega (arith, few, c.loop-i-test.true) in
    omega (arith, few-turns)

-- a cell by its column's step
pub move_planned-planned-requires : goal.move_planned-planned-requires
move_planned-planned-requires c =
    let cols-at : Columns = c.args.cols in
    let are : Within (listed cols-at) = c.requires.within.0 in
    let column-at : Column = get_or cols-at.list c.loop-i.i no_column in
    let next-column : drop c.loop-i.i (listed cols-at) ≡ column-at ∷ drop (suc c.loop-i.i) (listed cols-at) = listed_next cols-at c.loop-i.i c.loop-i-test.true in
    let step_is : get_or c.plan_of-plan.result.list c.loop-i.i no_step ≡ step_of column-at = (
    ap (λ (p : Plan). get_or p.list c.loop-i.i no_step) c.plan_of-plan.ensures ∙ plan-at (listed cols-at) c.loop-i.i column-at next-column) in
    let l = c.loop-i in (
      l.invariant.0.inside,
      omega (arith, l.invariant.1.puts.room, l.invariant.1.puts.long),
      omega (arith, ap (λ (x : Step). x.bytes) step_is, step-most column-at (listed-bound cols-at l.i are c.loop-i-test.true)),
    )

pub offset_bounds-cols-i : goal.offset_bounds-cols-i
offset_bounds-cols-i c =
    let cols-at : Columns = c.args.cols in
    let are : Within (listed cols-at) = c.requires.within.0 in
    let few : cols-at.count ≤ 64 = omega (arith, are.few, listed-length cols-at) in
    let few-turns : c.loop-i.i < 64 = omega (arith, few, c.loop-i-test.true) in
    omega (arith, few-turns)

pub move_cell-requires : goal.move_cell-requires
move_cell-requires c =
    let from_at : Rows = c.args.from in
    let to_at : Rows = c.args.to in
    let cols-at : Columns = c.args.cols in
    let s-at : List ℕ = c.args.s.now in
    let are : Within (listed cols-at) = c.requires.within.0 in
    let column-at : Column = get_or cols-at.list c.loop-i.i no_column in
    let next-column : drop c.loop-i.i (listed cols-at) ≡ column-at ∷ drop (suc c.loop-i.i) (listed cols-at) = listed_next cols-at c.loop-i.i c.loop-i-test.true in
    let step_is : get_or c.plan_of-plan.result.list c.loop-i.i no_step ≡ step_of column-at = (
    ap (λ (p : Plan). get_or p.list c.loop-i.i no_step) c.plan_of-plan.ensures ∙ plan-at (listed cols-at) c.loop-i.i column-at next-column) in
    let flag_at : Bool = c.flag_of-flagged.result in
    let planned-row : List ℕ = c.move_planned-planned.new.row in
    let by-plan : let l = c.loop-i in MovesCell from_at to_at column-at flag_at s-at l.at l.row l.end planned-row c.move_planned-planned.result = (
    c.move_planned-planned.ensures column-at (listed-bounded cols-at c.loop-i.i are c.loop-i-test.true) step_is) in
    let declined : Puts c.loop-i.row c.loop-i.end [] planned-row c.loop-i.end = (
    let l = c.loop-i in
    subst (MovesCell from_at to_at column-at flag_at s-at l.at l.row l.end planned-row) c.in-None.is by-plan) in
    let l = c.loop-i in (
      l.invariant.0.inside,
      listed-bound cols-at l.i are c.loop-i-test.true,
      omega (arith, l.invariant.2, c.rows.invariant.1, c.requires.within.1),
      omega (arith, l.invariant.1.puts.room, l.invariant.1.puts.long, declined.long),
    )

pub add_flag-nulls-requires : goal.add_flag-nulls-requires
add_flag-nulls-requires c =
    let cols-at : Columns = c.args.cols in
    let are : Within (listed cols-at) = c.requires.within.0 in
    let few : cols-at.count ≤ 64 = omega (arith, are.few, listed-length cols-at) in
    let few-turns : c.loop-i.i < 64 = omega (arith, few, c.loop-i-test.true) in
    few-turns

pub loop-i-preserved : goal.loop-i-preserved
unfolding read_more
loop-i-preserved c =
    let from_at : Rows = c.args.from in
    let to_at : Rows = c.args.to in
    let cols-at : Columns = c.args.cols in
    let s-at : List ℕ = c.args.s.now in
    let are : Within (listed cols-at) = c.requires.within.0 in
    let flags-at : ℕ = c.in-Ok.begun.flags in
    let body_at : ℕ = c.in-Ok.begun.cells in
    let column-at : Column = get_or cols-at.list c.loop-i.i no_column in
    let next-column : drop c.loop-i.i (listed cols-at) ≡ column-at ∷ drop (suc c.loop-i.i) (listed cols-at) = listed_next cols-at c.loop-i.i c.loop-i-test.true in
    let step_is : get_or c.plan_of-plan.result.list c.loop-i.i no_step ≡ step_of column-at = (
    ap (λ (p : Plan). get_or p.list c.loop-i.i no_step) c.plan_of-plan.ensures ∙ plan-at (listed cols-at) c.loop-i.i column-at next-column) in
    let flag_at : Bool = c.flag_of-flagged.result in
    let planned-row : List ℕ = c.move_planned-planned.new.row in
    let by-plan : let l = c.loop-i in MovesCell from_at to_at column-at flag_at s-at l.at l.row l.end planned-row c.move_planned-planned.result = (
    c.move_planned-planned.ensures column-at (listed-bounded cols-at c.loop-i.i are c.loop-i-test.true) step_is) in
    let advance : (new : List ℕ) (next e : ℕ) (null : Bool) (q : ℕ) → let l = c.loop-i in
    CellMoved from_at to_at column-at flag_at s-at l.at l.row l.end new next e null → to_digits 2 (l.i + 1) q ≡ to_digits 2 l.i l.nulls ++ (flag_bit null ∷ [])
    → (k : RowRead from_at (listed cols-at) (flags_in from_at cols-at.count flags-at) s-at body_at next (l.i + 1))
    × RowMoved to_at (listed cols-at) k.acc c.rows.row c.start_size-first.result new e q (l.i + 1) = λ new next e null q x w. (
    let l = c.loop-i in
    let f = c.flag_of-flagged in (
      read_more from_at (listed cols-at) _ s-at body_at l.at l.i l.invariant.0 column-at next-column f.result f.ensures x.cell _
          (omega (arith, listed-length cols-at, c.loop-i-test.true)) x.reads x.onward x.inside,
      moved_more to_at (listed cols-at) l.invariant.0.acc _ _ l.row l.end l.nulls l.i l.invariant.1 column-at next-column from_at f.result s-at l.at _
          _ _ _ x q w,
    )) in
    let l = c.loop-i in
    elim c.match-planned.branch [
      | in-Some w ↦
          let x = subst (MovesCell from_at to_at column-at flag_at s-at l.at l.row l.end planned-row) (w.in-Some.is ∙ ap Some (sym w.moved-is)) by-plan in
          let a = advance planned-row _ _ _ _ x c.add_flag-nulls.ensures in
          rw (w.scratch-is, w.row-is) (a.0, a.1, l.invariant.2)
      | in-None+in-Some-move_cell w ↦
          let declined = subst (MovesCell from_at to_at column-at flag_at s-at l.at l.row l.end planned-row) w.in-None.is by-plan in
          let m = w.move_cell in
          let y = subst (SettlesCell from_at to_at column-at flag_at s-at l.at planned-row l.end m.new.row) (w.in-Some-move_cell.is ∙ ap Some (sym w.moved-is)) m.ensures.settles_cell in
          let x = settled-after from_at to_at column-at flag_at s-at l.at l.row l.end planned-row _ (Some c.match-planned.moved) declined y in
          let a = advance _ _ _ _ _ x c.add_flag-nulls.ensures in
          rw (w.scratch-is, w.row-is) (a.0, a.1, m.ensures.scratch_len_unchanged ∙ l.invariant.2)
    ]

pub end_row-requires : goal.end_row-requires
end_row-requires c = c.loop-i.invariant.0.inside

pub frame_row-requires : goal.frame_row-requires
frame_row-requires c =
    let cols-at : Columns = c.args.cols in
    let are : Within (listed cols-at) = c.requires.within.0 in
    let few : cols-at.count ≤ 64 = omega (arith, are.few, listed-length cols-at) in
    let l = c.loop-i in
    (few, omega (arith, l.invariant.1.puts.long, c.rows.invariant.2, c.requires.within.2), omega (arith, l.invariant.1.puts.room, l.invariant.1.puts.long))

pub overflow_sub-out : goal.overflow_sub-out
overflow_sub-out c = c.rows.invariant.0.room

pub put_row-bytes-requires : goal.put_row-bytes-requires
put_row-bytes-requires c =
    let to_at : Rows = c.args.to in
    let cols-at : Columns = c.args.cols in
    let starts : (nulls : ℕ) → length (start_bytes to_at cols-at.count nulls) ≡ c.start_size-first.result = λ nulls. c.start_size-first.ensures.1 nulls in
    let roomy : c.start_size-first.result ≤ length c.rows.row = omega (arith, c.start_size-first.ensures.0, c.rows.invariant.2, c.requires.within.2) in
    let size-at : ℕ = c.in-Some-frame_row.size in
    let framed-row : List ℕ = c.frame_row.new.row in
    let row-bytes : List ℕ = (let l = c.loop-i in
    start_bytes to_at cols-at.count l.nulls ++ (l.invariant.1.w ++ write_end to_at)) in
    let stands : (size-at ≤ length framed-row) × (take size-at framed-row ≡ row-bytes) = (let l = c.loop-i in
    let g = c.frame_row.ensures.framed in
    let k = subst (FramedAs to_at cols-at.count l.nulls l.row l.end framed-row) c.in-Some-frame_row.is g in
    (k.0, k.1 l.invariant.1.w (take c.start_size-first.result c.rows.row) l.invariant.1.puts.front (length-take-le _ c.rows.row roomy ∙ sym (starts l.nulls)))) in
    (stands.0, omega (arith, c.if-out-bytes.false, c.rows.invariant.0.room))

pub overflow_add-rows : goal.overflow_add-rows
overflow_add-rows c =
    let from_at : Rows = c.args.from in
    let cols-at : Columns = c.args.cols in
    let s-at : List ℕ = c.args.s.now in
    let are : Within (listed cols-at) = c.requires.within.0 in
    let flags-at : ℕ = c.in-Ok.begun.flags in
    let body_at : ℕ = c.in-Ok.begun.cells in
    let begun : read_row from_at (listed cols-at) (drop c.rows.place s-at) ≡ cells_end from_at (listed cols-at) (flags_in from_at cols-at.count flags-at) (drop body_at s-at) = (
    let g = c.begin_quickly in
    row-begun from_at (listed cols-at) cols-at.count (listed-length cols-at) s-at c.rows.place g.result g.ensures c.in-Ok.begun c.in-Ok.is) in
    let next-at : ℕ = c.in-Ok-end_row.next in
    let past : length (listed cols-at) ≤ c.loop-i.i = omega (arith, listed-length cols-at, c.loop-i-test.false) in
    let whole : read_row from_at (listed cols-at) (drop c.rows.place s-at) ≡ good (c.loop-i.invariant.0.acc, drop next-at s-at) = (
    let l = c.loop-i in
    let z = c.end_row in
    let q = read-end from_at (listed cols-at) _ s-at body_at l.at l.i l.invariant.0 past in
    begun ∙ cells-closed from_at (listed cols-at) _ s-at body_at _ _ q z.result z.ensures next-at c.in-Ok-end_row.is) in
    let onward : (c.rows.place < next-at) × (next-at ≤ length s-at) = (
    let z = c.end_row in
    let w = closed-within from_at s-at c.loop-i.at z.result z.ensures next-at c.in-Ok-end_row.is in
    (row-onward from_at (listed cols-at) s-at c.rows.place next-at _ are whole w.1, w.1)) in
    let f = rows-further c.rows.invariant.0 are c.requires.place_in_bounds.0 c.requires.place_in_bounds.1 in
    omega (arith, f.fewer, onward.0, onward.1)

pub rows-smaller : goal.rows-smaller
rows-smaller c =
    let from_at : Rows = c.args.from in
    let cols-at : Columns = c.args.cols in
    let s-at : List ℕ = c.args.s.now in
    let are : Within (listed cols-at) = c.requires.within.0 in
    let flags-at : ℕ = c.in-Ok.begun.flags in
    let body_at : ℕ = c.in-Ok.begun.cells in
    let begun : read_row from_at (listed cols-at) (drop c.rows.place s-at) ≡ cells_end from_at (listed cols-at) (flags_in from_at cols-at.count flags-at) (drop body_at s-at) = (
    let g = c.begin_quickly in
    row-begun from_at (listed cols-at) cols-at.count (listed-length cols-at) s-at c.rows.place g.result g.ensures c.in-Ok.begun c.in-Ok.is) in
    let next-at : ℕ = c.in-Ok-end_row.next in
    let past : length (listed cols-at) ≤ c.loop-i.i = omega (arith, listed-length cols-at, c.loop-i-test.false) in
    let whole : read_row from_at (listed cols-at) (drop c.rows.place s-at) ≡ good (c.loop-i.invariant.0.acc, drop next-at s-at) = (
    let l = c.loop-i in
    let z = c.end_row in
    let q = read-end from_at (listed cols-at) _ s-at body_at l.at l.i l.invariant.0 past in
    begun ∙ cells-closed from_at (listed cols-at) _ s-at body_at _ _ q z.result z.ensures next-at c.in-Ok-end_row.is) in
    let onward : (c.rows.place < next-at) × (next-at ≤ length s-at) = (
    let z = c.end_row in
    let w = closed-within from_at s-at c.loop-i.at z.result z.ensures next-at c.in-Ok-end_row.is in
    (row-onward from_at (listed cols-at) s-at c.rows.place next-at _ are whole w.1, w.1)) in
    omega (arith, onward.0, onward.1)

pub rows-preserved : goal.rows-preserved
rows-preserved c =
    let from_at : Rows = c.args.from in
    let to_at : Rows = c.args.to in
    let cols-at : Columns = c.args.cols in
    let s-at : List ℕ = c.args.s.now in
    let are : Within (listed cols-at) = c.requires.within.0 in
    let flags-at : ℕ = c.in-Ok.begun.flags in
    let body_at : ℕ = c.in-Ok.begun.cells in
    let begun : read_row from_at (listed cols-at) (drop c.rows.place s-at) ≡ cells_end from_at (listed cols-at) (flags_in from_at cols-at.count flags-at) (drop body_at s-at) = (
    let g = c.begin_quickly in
    row-begun from_at (listed cols-at) cols-at.count (listed-length cols-at) s-at c.rows.place g.result g.ensures c.in-Ok.begun c.in-Ok.is) in
    let starts : (nulls : ℕ) → length (start_bytes to_at cols-at.count nulls) ≡ c.start_size-first.result = λ nulls. c.start_size-first.ensures.1 nulls in
    let roomy : c.start_size-first.result ≤ length c.rows.row = omega (arith, c.start_size-first.ensures.0, c.rows.invariant.2, c.requires.within.2) in
    let next-at : ℕ = c.in-Ok-end_row.next in
    let past : length (listed cols-at) ≤ c.loop-i.i = omega (arith, listed-length cols-at, c.loop-i-test.false) in
    let whole : read_row from_at (listed cols-at) (drop c.rows.place s-at) ≡ good (c.loop-i.invariant.0.acc, drop next-at s-at) = (
    let l = c.loop-i in
    let z = c.end_row in
    let q = read-end from_at (listed cols-at) _ s-at body_at l.at l.i l.invariant.0 past in
    begun ∙ cells-closed from_at (listed cols-at) _ s-at body_at _ _ q z.result z.ensures next-at c.in-Ok-end_row.is) in
    let onward : (c.rows.place < next-at) × (next-at ≤ length s-at) = (
    let z = c.end_row in
    let w = closed-within from_at s-at c.loop-i.at z.result z.ensures next-at c.in-Ok-end_row.is in
    (row-onward from_at (listed cols-at) s-at c.rows.place next-at _ are whole w.1, w.1)) in
    let size-at : ℕ = c.in-Some-frame_row.size in
    let framed-row : List ℕ = c.frame_row.new.row in
    let row-bytes : List ℕ = (let l = c.loop-i in
    start_bytes to_at cols-at.count l.nulls ++ (l.invariant.1.w ++ write_end to_at)) in
    let written_at : write_row to_at (listed cols-at) c.loop-i.invariant.0.acc ≡ good row-bytes = (
    let l = c.loop-i in
    moved_row to_at (listed cols-at) l.invariant.0.acc _ _ _ _ l.nulls l.i cols-at.count l.invariant.1 past
    (omega (arith, past, l.invariant.0.upto, listed-length cols-at))) in
    let stands : (size-at ≤ length framed-row) × (take size-at framed-row ≡ row-bytes) = (let l = c.loop-i in
    let g = c.frame_row.ensures.framed in
    let k = subst (FramedAs to_at cols-at.count l.nulls l.row l.end framed-row) c.in-Some-frame_row.is g in
    (k.0, k.1 l.invariant.1.w (take c.start_size-first.result c.rows.row) l.invariant.1.puts.front (length-take-le _ c.rows.row roomy ∙ sym (starts l.nulls)))) in
    let as_many : length row-bytes ≡ size-at = ap length (sym stands.1) ∙ length-take-le size-at framed-row stands.0 in
    let l = c.loop-i in
    let i = c.rows.invariant.0 in
    let p = wrote_as stands.1 c.put_row-bytes.ensures in
    let fits = c.if-out-bytes.false in
    let g = c.frame_row.ensures in (
      rows_more from_at to_at (listed cols-at) s-at _ _ _ _ c.rows.out c.rows.place c.rows.rows c.rows.bytes i
          l.invariant.0.acc next-at whole onward.1 row-bytes written_at (omega (arith, as_many, fits, i.room)) _ _ p,
      l.invariant.2 ∙ c.rows.invariant.1,
      g.long ∙ l.invariant.1.puts.long ∙ c.rows.invariant.2,
    )

pub returns-in_default : goal.returns-in_default
returns-in_default c =
    let from_at : Rows = c.args.from in
    let to_at : Rows = c.args.to in
    let cols-at : Columns = c.args.cols in
    let s-at : List ℕ = c.args.s.now in
    let LeftAt : Type 0 = RowLeft from_at to_at (listed cols-at) s-at c.rows.place c.rows.out c.rows.bytes (length c.args.row.now) in
    let unbegun : LeftAt = (let g = c.begin_quickly in
    unread-left from_at to_at (listed cols-at) s-at c.rows.place c.rows.out c.rows.bytes _ _
    (row-unbegun from_at (listed cols-at) cols-at.count (listed-length cols-at) s-at c.rows.place g.result g.ensures _ c.in_default.is)) in
    record {
      moves_rows = record { moved = c.rows.invariant.0; stops = unbegun };
      scratch_len_unchanged = c.rows.invariant.1;
      row_len_unchanged = c.rows.invariant.2;
    }

pub shape_of-scratch-in_default-move_cell : goal.shape_of-scratch-in_default-move_cell
shape_of-scratch-in_default-move_cell c =
    c.move_cell.ensures.scratch_len_unchanged ∙ c.loop-i.invariant.2 ∙ c.rows.invariant.1

pub shape_of-row-in_default-move_cell : goal.shape_of-row-in_default-move_cell
shape_of-row-in_default-move_cell c =
    let from_at : Rows = c.args.from in
    let to_at : Rows = c.args.to in
    let cols-at : Columns = c.args.cols in
    let s-at : List ℕ = c.args.s.now in
    let are : Within (listed cols-at) = c.requires.within.0 in
    let column-at : Column = get_or cols-at.list c.loop-i.i no_column in
    let next-column : drop c.loop-i.i (listed cols-at) ≡ column-at ∷ drop (suc c.loop-i.i) (listed cols-at) = listed_next cols-at c.loop-i.i c.loop-i-test.true in
    let step_is : get_or c.plan_of-plan.result.list c.loop-i.i no_step ≡ step_of column-at = (
    ap (λ (p : Plan). get_or p.list c.loop-i.i no_step) c.plan_of-plan.ensures ∙ plan-at (listed cols-at) c.loop-i.i column-at next-column) in
    let flag_at : Bool = c.flag_of-flagged.result in
    let planned-row : List ℕ = c.move_planned-planned.new.row in
    let by-plan : let l = c.loop-i in MovesCell from_at to_at column-at flag_at s-at l.at l.row l.end planned-row c.move_planned-planned.result = (
    c.move_planned-planned.ensures column-at (listed-bounded cols-at c.loop-i.i are c.loop-i-test.true) step_is) in
    let declined : Puts c.loop-i.row c.loop-i.end [] planned-row c.loop-i.end = (
    let l = c.loop-i in
    subst (MovesCell from_at to_at column-at flag_at s-at l.at l.row l.end planned-row) c.in-None.is by-plan) in
    let unmoved-cell : let l = c.loop-i in CellLeft from_at to_at column-at flag_at s-at l.at l.row l.end c.move_cell.new.row = (
    let l = c.loop-i in
    let m = c.move_cell in
    settled-after from_at to_at column-at flag_at s-at l.at l.row l.end planned-row _ None declined
    (subst (SettlesCell from_at to_at column-at _ s-at l.at planned-row l.end _) c.in_default-move_cell.is m.ensures.settles_cell)) in
    let l = c.loop-i in
    unmoved-cell.puts.long ∙ l.invariant.1.puts.long ∙ c.rows.invariant.2

pub returns-in_default-move_cell : goal.returns-in_default-move_cell
returns-in_default-move_cell c =
    let from_at : Rows = c.args.from in
    let to_at : Rows = c.args.to in
    let cols-at : Columns = c.args.cols in
    let s-at : List ℕ = c.args.s.now in
    let are : Within (listed cols-at) = c.requires.within.0 in
    let flags-at : ℕ = c.in-Ok.begun.flags in
    let body_at : ℕ = c.in-Ok.begun.cells in
    let begun : read_row from_at (listed cols-at) (drop c.rows.place s-at) ≡ cells_end from_at (listed cols-at) (flags_in from_at cols-at.count flags-at) (drop body_at s-at) = (
    let g = c.begin_quickly in
    row-begun from_at (listed cols-at) cols-at.count (listed-length cols-at) s-at c.rows.place g.result g.ensures c.in-Ok.begun c.in-Ok.is) in
    let column-at : Column = get_or cols-at.list c.loop-i.i no_column in
    let next-column : drop c.loop-i.i (listed cols-at) ≡ column-at ∷ drop (suc c.loop-i.i) (listed cols-at) = listed_next cols-at c.loop-i.i c.loop-i-test.true in
    let step_is : get_or c.plan_of-plan.result.list c.loop-i.i no_step ≡ step_of column-at = (
    ap (λ (p : Plan). get_or p.list c.loop-i.i no_step) c.plan_of-plan.ensures ∙ plan-at (listed cols-at) c.loop-i.i column-at next-column) in
    let flag_at : Bool = c.flag_of-flagged.result in
    let planned-row : List ℕ = c.move_planned-planned.new.row in
    let by-plan : let l = c.loop-i in MovesCell from_at to_at column-at flag_at s-at l.at l.row l.end planned-row c.move_planned-planned.result = (
    c.move_planned-planned.ensures column-at (listed-bounded cols-at c.loop-i.i are c.loop-i-test.true) step_is) in
    let declined : Puts c.loop-i.row c.loop-i.end [] planned-row c.loop-i.end = (
    let l = c.loop-i in
    subst (MovesCell from_at to_at column-at flag_at s-at l.at l.row l.end planned-row) c.in-None.is by-plan) in
    let LeftAt : Type 0 = RowLeft from_at to_at (listed cols-at) s-at c.rows.place c.rows.out c.rows.bytes (length c.args.row.now) in
    let unmoved-cell : let l = c.loop-i in CellLeft from_at to_at column-at flag_at s-at l.at l.row l.end c.move_cell.new.row = (
    let l = c.loop-i in
    let m = c.move_cell in
    settled-after from_at to_at column-at flag_at s-at l.at l.row l.end planned-row _ None declined
    (subst (SettlesCell from_at to_at column-at _ s-at l.at planned-row l.end _) c.in_default-move_cell.is m.ensures.settles_cell)) in
    let uncelled : LeftAt = (
    let l = c.loop-i in
    let f = c.flag_of-flagged in
    cell-left from_at to_at (listed cols-at) s-at c.rows.place c.rows.out c.rows.bytes _ _ body_at l.at l.i begun l.invariant.0
    c.rows.row _ l.row l.end l.nulls l.invariant.1 c.start_size-first.ensures.0 c.rows.invariant.2 column-at next-column f.result f.ensures _ unmoved-cell) in
    record {
      moves_rows = record { moved = c.rows.invariant.0; stops = uncelled };
      scratch_len_unchanged = shape_of-scratch-in_default-move_cell c;
      row_len_unchanged = shape_of-row-in_default-move_cell c;
    }

pub returns-in_default-end_row : goal.returns-in_default-end_row
returns-in_default-end_row c =
    let from_at : Rows = c.args.from in
    let to_at : Rows = c.args.to in
    let cols-at : Columns = c.args.cols in
    let s-at : List ℕ = c.args.s.now in
    let flags-at : ℕ = c.in-Ok.begun.flags in
    let body_at : ℕ = c.in-Ok.begun.cells in
    let begun : read_row from_at (listed cols-at) (drop c.rows.place s-at) ≡ cells_end from_at (listed cols-at) (flags_in from_at cols-at.count flags-at) (drop body_at s-at) = (
    let g = c.begin_quickly in
    row-begun from_at (listed cols-at) cols-at.count (listed-length cols-at) s-at c.rows.place g.result g.ensures c.in-Ok.begun c.in-Ok.is) in
    let past : length (listed cols-at) ≤ c.loop-i.i = omega (arith, listed-length cols-at, c.loop-i-test.false) in
    let LeftAt : Type 0 = RowLeft from_at to_at (listed cols-at) s-at c.rows.place c.rows.out c.rows.bytes (length c.args.row.now) in
    let loop-scratch : length c.loop-i.scratch ≡ length c.args.scratch.now = c.loop-i.invariant.2 ∙ c.rows.invariant.1 in
    let loop-row : length c.loop-i.row ≡ length c.args.row.now = c.loop-i.invariant.1.puts.long ∙ c.rows.invariant.2 in
    let unended : LeftAt = (
    let l = c.loop-i in
    let z = c.end_row in
    let q = read-end from_at (listed cols-at) _ s-at body_at l.at l.i l.invariant.0 past in
    unread-left from_at to_at (listed cols-at) s-at c.rows.place c.rows.out c.rows.bytes _ _
    (begun ∙ cells_open from_at (listed cols-at) _ s-at body_at _ _ q z.result z.ensures _ c.in_default-end_row.is)) in
    record { moves_rows = record { moved = c.rows.invariant.0; stops = unended }; scratch_len_unchanged = loop-scratch; row_len_unchanged = loop-row }

pub returns-in_default-frame_row : goal.returns-in_default-frame_row
returns-in_default-frame_row c =
    let from_at : Rows = c.args.from in
    let to_at : Rows = c.args.to in
    let cols-at : Columns = c.args.cols in
    let s-at : List ℕ = c.args.s.now in
    let flags-at : ℕ = c.in-Ok.begun.flags in
    let body_at : ℕ = c.in-Ok.begun.cells in
    let begun : read_row from_at (listed cols-at) (drop c.rows.place s-at) ≡ cells_end from_at (listed cols-at) (flags_in from_at cols-at.count flags-at) (drop body_at s-at) = (
    let g = c.begin_quickly in
    row-begun from_at (listed cols-at) cols-at.count (listed-length cols-at) s-at c.rows.place g.result g.ensures c.in-Ok.begun c.in-Ok.is) in
    let starts : (nulls : ℕ) → length (start_bytes to_at cols-at.count nulls) ≡ c.start_size-first.result = λ nulls. c.start_size-first.ensures.1 nulls in
    let next-at : ℕ = c.in-Ok-end_row.next in
    let past : length (listed cols-at) ≤ c.loop-i.i = omega (arith, listed-length cols-at, c.loop-i-test.false) in
    let whole : read_row from_at (listed cols-at) (drop c.rows.place s-at) ≡ good (c.loop-i.invariant.0.acc, drop next-at s-at) = (
    let l = c.loop-i in
    let z = c.end_row in
    let q = read-end from_at (listed cols-at) _ s-at body_at l.at l.i l.invariant.0 past in
    begun ∙ cells-closed from_at (listed cols-at) _ s-at body_at _ _ q z.result z.ensures next-at c.in-Ok-end_row.is) in
    let row-bytes : List ℕ = (let l = c.loop-i in
    start_bytes to_at cols-at.count l.nulls ++ (l.invariant.1.w ++ write_end to_at)) in
    let written_at : write_row to_at (listed cols-at) c.loop-i.invariant.0.acc ≡ good row-bytes = (
    let l = c.loop-i in
    moved_row to_at (listed cols-at) l.invariant.0.acc _ _ _ _ l.nulls l.i cols-at.count l.invariant.1 past
    (omega (arith, past, l.invariant.0.upto, listed-length cols-at))) in
    let LeftAt : Type 0 = RowLeft from_at to_at (listed cols-at) s-at c.rows.place c.rows.out c.rows.bytes (length c.args.row.now) in
    let loop-scratch : length c.loop-i.scratch ≡ length c.args.scratch.now = c.loop-i.invariant.2 ∙ c.rows.invariant.1 in
    let loop-row : length c.loop-i.row ≡ length c.args.row.now = c.loop-i.invariant.1.puts.long ∙ c.rows.invariant.2 in
    let too_long : LeftAt = (
    let l = c.loop-i in
    let g = c.frame_row.ensures in
    let k = subst (FramedAs to_at cols-at.count l.nulls l.row l.end _) c.in_default-frame_row.is g.framed in
    let start = start_bytes to_at cols-at.count l.nulls in
    let cells = l.invariant.1.w in
    long-left from_at to_at (listed cols-at) s-at c.rows.place c.rows.out c.rows.bytes _ _ _ row-bytes whole written_at
    (omega (arith, k, g.long, loop-row, l.invariant.1.puts.next-is, starts l.nulls, length-append start (cells ++ write_end to_at), length-append cells (write_end to_at)))) in
    let g = c.frame_row.ensures in
    record {
      moves_rows = record { moved = c.rows.invariant.0; stops = too_long };
      scratch_len_unchanged = loop-scratch;
      row_len_unchanged = g.long ∙ loop-row;
    }

pub returns-then-out-bytes : goal.returns-then-out-bytes
returns-then-out-bytes c =
    let from_at : Rows = c.args.from in
    let to_at : Rows = c.args.to in
    let cols-at : Columns = c.args.cols in
    let s-at : List ℕ = c.args.s.now in
    let flags-at : ℕ = c.in-Ok.begun.flags in
    let body_at : ℕ = c.in-Ok.begun.cells in
    let begun : read_row from_at (listed cols-at) (drop c.rows.place s-at) ≡ cells_end from_at (listed cols-at) (flags_in from_at cols-at.count flags-at) (drop body_at s-at) = (
    let g = c.begin_quickly in
    row-begun from_at (listed cols-at) cols-at.count (listed-length cols-at) s-at c.rows.place g.result g.ensures c.in-Ok.begun c.in-Ok.is) in
    let starts : (nulls : ℕ) → length (start_bytes to_at cols-at.count nulls) ≡ c.start_size-first.result = λ nulls. c.start_size-first.ensures.1 nulls in
    let roomy : c.start_size-first.result ≤ length c.rows.row = omega (arith, c.start_size-first.ensures.0, c.rows.invariant.2, c.requires.within.2) in
    let next-at : ℕ = c.in-Ok-end_row.next in
    let past : length (listed cols-at) ≤ c.loop-i.i = omega (arith, listed-length cols-at, c.loop-i-test.false) in
    let whole : read_row from_at (listed cols-at) (drop c.rows.place s-at) ≡ good (c.loop-i.invariant.0.acc, drop next-at s-at) = (
    let l = c.loop-i in
    let z = c.end_row in
    let q = read-end from_at (listed cols-at) _ s-at body_at l.at l.i l.invariant.0 past in
    begun ∙ cells-closed from_at (listed cols-at) _ s-at body_at _ _ q z.result z.ensures next-at c.in-Ok-end_row.is) in
    let size-at : ℕ = c.in-Some-frame_row.size in
    let framed-row : List ℕ = c.frame_row.new.row in
    let row-bytes : List ℕ = (let l = c.loop-i in
    start_bytes to_at cols-at.count l.nulls ++ (l.invariant.1.w ++ write_end to_at)) in
    let written_at : write_row to_at (listed cols-at) c.loop-i.invariant.0.acc ≡ good row-bytes = (
    let l = c.loop-i in
    moved_row to_at (listed cols-at) l.invariant.0.acc _ _ _ _ l.nulls l.i cols-at.count l.invariant.1 past
    (omega (arith, past, l.invariant.0.upto, listed-length cols-at))) in
    let stands : (size-at ≤ length framed-row) × (take size-at framed-row ≡ row-bytes) = (let l = c.loop-i in
    let g = c.frame_row.ensures.framed in
    let k = subst (FramedAs to_at cols-at.count l.nulls l.row l.end framed-row) c.in-Some-frame_row.is g in
    (k.0, k.1 l.invariant.1.w (take c.start_size-first.result c.rows.row) l.invariant.1.puts.front (length-take-le _ c.rows.row roomy ∙ sym (starts l.nulls)))) in
    let as_many : length row-bytes ≡ size-at = ap length (sym stands.1) ∙ length-take-le size-at framed-row stands.0 in
    let LeftAt : Type 0 = RowLeft from_at to_at (listed cols-at) s-at c.rows.place c.rows.out c.rows.bytes (length c.args.row.now) in
    let loop-scratch : length c.loop-i.scratch ≡ length c.args.scratch.now = c.loop-i.invariant.2 ∙ c.rows.invariant.1 in
    let loop-row : length c.loop-i.row ≡ length c.args.row.now = c.loop-i.invariant.1.puts.long ∙ c.rows.invariant.2 in
    let full : LeftAt = (
    full-left from_at to_at (listed cols-at) s-at c.rows.place c.rows.out c.rows.bytes _ _ _ row-bytes whole written_at
    (omega (arith, c.if-out-bytes.true, as_many, c.rows.invariant.0.room))) in
    let g = c.frame_row.ensures in
    record {
      moves_rows = record { moved = c.rows.invariant.0; stops = full };
      scratch_len_unchanged = loop-scratch;
      row_len_unchanged = g.long ∙ loop-row;
    }

pub bounds-plan-i : goal.bounds-plan-i
bounds-plan-i c =
    let cols-at : Columns = c.args.cols in
    let are : Within (listed cols-at) = c.requires.within.0 in
    let few : cols-at.count ≤ 64 = omega (arith, are.few, listed-length cols-at) in
    let few-turns : c.loop-i.i < 64 = omega (arith, few, c.loop-i-test.true) in
    few-turns

pub bounds-cols-i : goal.bounds-cols-i
bounds-cols-i c =
    let cols-at : Columns = c.args.cols in
    let are : Within (listed cols-at) = c.requires.within.0 in
    let few : cols-at.count ≤ 64 = omega (arith, are.few, listed-length cols-at) in
    let few-turns : c.loop-i.i < 64 = omega (arith, few, c.loop-i-test.true) in
    few-turns

pub shape_of-out-in_default : goal.shape_of-out-in_default
shape_of-out-in_default c = wrote-long (returns-in_default c).moves_rows.moved.wrote

pub shape_of-scratch-in_default : goal.shape_of-scratch-in_default
shape_of-scratch-in_default c = (returns-in_default c).scratch_len_unchanged

pub shape_of-row-in_default : goal.shape_of-row-in_default
shape_of-row-in_default c = (returns-in_default c).row_len_unchanged

pub shape_of-out-in_default-move_cell : goal.shape_of-out-in_default-move_cell
shape_of-out-in_default-move_cell c = wrote-long (returns-in_default-move_cell c).moves_rows.moved.wrote

pub shape_of-out-in_default-end_row : goal.shape_of-out-in_default-end_row
shape_of-out-in_default-end_row c = wrote-long (returns-in_default-end_row c).moves_rows.moved.wrote

pub shape_of-scratch-in_default-end_row : goal.shape_of-scratch-in_default-end_row
shape_of-scratch-in_default-end_row c = (returns-in_default-end_row c).scratch_len_unchanged

pub shape_of-row-in_default-end_row : goal.shape_of-row-in_default-end_row
shape_of-row-in_default-end_row c = (returns-in_default-end_row c).row_len_unchanged

pub shape_of-out-in_default-frame_row : goal.shape_of-out-in_default-frame_row
shape_of-out-in_default-frame_row c = wrote-long (returns-in_default-frame_row c).moves_rows.moved.wrote

pub shape_of-scratch-in_default-frame_row : goal.shape_of-scratch-in_default-frame_row
shape_of-scratch-in_default-frame_row c = (returns-in_default-frame_row c).scratch_len_unchanged

pub shape_of-row-in_default-frame_row : goal.shape_of-row-in_default-frame_row
shape_of-row-in_default-frame_row c = (returns-in_default-frame_row c).row_len_unchanged

pub shape_of-out-then-out-bytes : goal.shape_of-out-then-out-bytes
shape_of-out-then-out-bytes c = wrote-long (returns-then-out-bytes c).moves_rows.moved.wrote

pub shape_of-scratch-then-out-bytes : goal.shape_of-scratch-then-out-bytes
shape_of-scratch-then-out-bytes c = (returns-then-out-bytes c).scratch_len_unchanged

pub shape_of-row-then-out-bytes : goal.shape_of-row-then-out-bytes
shape_of-row-then-out-bytes c = (returns-then-out-bytes c).row_len_unchanged
