-- row_writing::write_held_row: a row that is held is written: what begins it, then its cells one behind the other (WriteInv: what is left to write gives the whole), then
-- what ends it.
use Prim.Native.Nat.{◌+◌, ◌<◌, ◌≤◌, suc, ℕ}
use mathlib.Core.Bool.{false}
use mathlib.Core.List.{List, [], ◌∷◌}
use mathlib.Core.Path.{◌∙◌, ◌≡◌, ap, subst}
use lib.ListN.{drop, get_or, length}
use lib.Seq.{length-sets, sets}
use native.Mathlib.Omega.{arith}
use Rattle.table.proofs.ColumnList.{listed-length, listed_next}
use Rattle.table.specs.ColumnList.{listed, no_column}
use Rattle.row_reading.proofs.Ways.{no_flag}
use Rattle.row_writing.proofs.RowForm.{write-fits, write-more, write-start, written-end, written-to}
use Rattle.row_reading.proofs.Parts.{listed-bound}
use Rattle.row_writing.proofs.RowForm.{row-bytes-length, row-stored}
use Rattle.table.proofs.Wrote.{wrote-long}
use Rattle.row_writing.specs.Clauses.{HeldWithin, held_form, held_next, start_bytes}
use Rattle.rows.specs.Stream.{write_end}
use Rattle.table.specs.declared.Column.{Column}
use Rattle.row_writing.proofs.write_held_row.Goals as goal

pub write_start-first-requires : goal.write_start-first-requires
write_start-first-requires c =
    let few : c.args.cols.count ≤ 64 = omega (arith, c.requires.within.0.few, listed-length c.args.cols) in
    (omega (arith, c.requires.scratch_in_bounds, row-bytes-length c.args.to c.args.cols.count c.args.nulls (held_form c.args.to c.args.cols c.args.scratch.now)), few)

pub loop-j-init : goal.loop-j-init
loop-j-init c =
    (write-start held_next c.args.to (listed c.args.cols) [] c.args.scratch.now _ _ (omega arith), c.requires.within.1)

pub offset_bounds-cols-j : goal.offset_bounds-cols-j
offset_bounds-cols-j c =
    let few : c.args.cols.count ≤ 64 = omega (arith, c.requires.within.0.few, listed-length c.args.cols) in
    omega (arith, few, c.loop-j-test.true)

pub bounds-cols-j : goal.bounds-cols-j
bounds-cols-j c =
    let few : c.args.cols.count ≤ 64 = omega (arith, c.requires.within.0.few, listed-length c.args.cols) in
    omega (arith, few, c.loop-j-test.true)

pub write_held_cell-w-requires : goal.write_held_cell-w-requires
write_held_cell-w-requires c =
    let headed : List ℕ = c.write_start-first.new.out in
    let first : ℕ = c.write_start-first.result in
    let cells : List ℕ = held_form c.args.to c.args.cols c.args.scratch.now in
    let same-room : length headed ≡ length c.args.out.now = (ap length c.write_start-first.ensures.now-is ∙ length-sets c.args.out.now c.args.at
    (start_bytes c.args.to c.args.cols.count c.args.nulls)) in
    let room-left : first + (length cells + length (write_end c.args.to)) ≤ length headed = (
    omega (arith, same-room, c.requires.scratch_in_bounds, c.write_start-first.ensures.next-is, row-bytes-length c.args.to c.args.cols.count c.args.nulls cells)) in
    let bounds : c.loop-j.j < c.args.cols.count → HeldWithin (get_or c.args.cols.list c.loop-j.j no_column ∷ drop (suc c.loop-j.j) (listed c.args.cols))
    (drop c.loop-j.w.at c.args.scratch.now) = λ t. subst (λ (cs : List Column). HeldWithin cs (drop c.loop-j.w.at c.args.scratch.now))
    (listed_next c.args.cols c.loop-j.j t) c.loop-j.invariant.1 in
    let cols = c.args.cols in
    let t = c.loop-j-test.true in
    let more : c.loop-j.j < length (listed cols) = omega (arith, listed-length cols, t) in
    record {
      len_bound = (listed-bound cols c.loop-j.j c.requires.within.0 t, (bounds t).0);
      scratch_in_bounds = write-fits held_next c.args.to (listed cols) [] c.args.scratch.now headed _ c.loop-j.out c.loop-j.w c.loop-j.j c.loop-j.invariant.0
          (get_or cols.list c.loop-j.j no_column) more (listed_next cols c.loop-j.j t) false (no_flag c.loop-j.j) (omega (arith, room-left));
    }

pub loop-j-preserved : goal.loop-j-preserved
loop-j-preserved c =
    let headed : List ℕ = c.write_start-first.new.out in
    let bounds : c.loop-j.j < c.args.cols.count → HeldWithin (get_or c.args.cols.list c.loop-j.j no_column ∷ drop (suc c.loop-j.j) (listed c.args.cols))
    (drop c.loop-j.w.at c.args.scratch.now) = λ t. subst (λ (cs : List Column). HeldWithin cs (drop c.loop-j.w.at c.args.scratch.now))
    (listed_next c.args.cols c.loop-j.j t) c.loop-j.invariant.1 in
    let cols = c.args.cols in
    let t = c.loop-j-test.true in
    let g = c.write_held_cell-w.ensures in
    let n : suc c.loop-j.j ≡ c.loop-j.j + 1 = omega arith in (
      write-more held_next c.args.to (listed cols) [] c.args.scratch.now headed _ c.loop-j.out c.loop-j.w c.loop-j.j c.loop-j.invariant.0
          (get_or cols.list c.loop-j.j no_column) (omega (arith, listed-length cols, t)) (listed_next cols c.loop-j.j t) false (no_flag c.loop-j.j) _ _ g,
      subst (λ (m : ℕ). HeldWithin (drop m (listed cols)) (drop c.write_held_cell-w.result.at c.args.scratch.now)) n
          (subst (HeldWithin (drop (suc c.loop-j.j) (listed cols))) g.rest (bounds t).1),
    )

pub write_end-requires : goal.write_end-requires
write_end-requires c =
    let headed : List ℕ = c.write_start-first.new.out in
    let first : ℕ = c.write_start-first.result in
    let cells : List ℕ = held_form c.args.to c.args.cols c.args.scratch.now in
    let same-room : length headed ≡ length c.args.out.now = (ap length c.write_start-first.ensures.now-is ∙ length-sets c.args.out.now c.args.at
    (start_bytes c.args.to c.args.cols.count c.args.nulls)) in
    let room-left : first + (length cells + length (write_end c.args.to)) ≤ length headed = (
    omega (arith, same-room, c.requires.scratch_in_bounds, c.write_start-first.ensures.next-is, row-bytes-length c.args.to c.args.cols.count c.args.nulls cells)) in
    let all-written : (c.loop-j.out ≡ sets headed first cells) × (c.loop-j.w.to ≡ first + length cells) = (
    let cols = c.args.cols in
    let end : length (listed cols) ≤ c.loop-j.j = omega (arith, listed-length cols, c.loop-j-test.false) in (
      written-end held_next c.args.to (listed cols) [] c.args.scratch.now headed _ c.loop-j.out c.loop-j.w c.loop-j.j c.loop-j.invariant.0 end,
      written-to held_next c.args.to (listed cols) [] c.args.scratch.now headed _ c.loop-j.out c.loop-j.w c.loop-j.j c.loop-j.invariant.0 end,
    )) in
    omega (arith, room-left, all-written.1, c.loop-j.invariant.0.long)

pub shape_of-out : goal.shape_of-out
shape_of-out c =
    let headed : List ℕ = c.write_start-first.new.out in
    let same-room : length headed ≡ length c.args.out.now = (ap length c.write_start-first.ensures.now-is ∙ length-sets c.args.out.now c.args.at
    (start_bytes c.args.to c.args.cols.count c.args.nulls)) in
    wrote-long c.write_end.ensures ∙ c.loop-j.invariant.0.long ∙ same-room

pub returns : goal.returns
returns c =
    let headed : List ℕ = c.write_start-first.new.out in
    let first : ℕ = c.write_start-first.result in
    let cells : List ℕ = held_form c.args.to c.args.cols c.args.scratch.now in
    let all-written : (c.loop-j.out ≡ sets headed first cells) × (c.loop-j.w.to ≡ first + length cells) = (
    let cols = c.args.cols in
    let end : length (listed cols) ≤ c.loop-j.j = omega (arith, listed-length cols, c.loop-j-test.false) in (
      written-end held_next c.args.to (listed cols) [] c.args.scratch.now headed _ c.loop-j.out c.loop-j.w c.loop-j.j c.loop-j.invariant.0 end,
      written-to held_next c.args.to (listed cols) [] c.args.scratch.now headed _ c.loop-j.out c.loop-j.w c.loop-j.j c.loop-j.invariant.0 end,
    )) in
    let w = all-written in
    row-stored c.args.to c.args.cols.count c.args.nulls cells c.args.out.now headed c.loop-j.out _ c.args.at first c.loop-j.w.to _
    c.write_start-first.ensures w.0 w.1 c.write_end.ensures
