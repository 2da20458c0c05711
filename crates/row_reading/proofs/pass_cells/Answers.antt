-- row_reading::pass_cells: the loop over columns (RowRead: what is read of the row is what has been read and what is still to come), then what
-- ends the row; each way out is one law of Parts.
use Prim.Native.Nat.{◌≤◌, ℕ}
use mathlib.Core.Bool.{Bool}
use mathlib.Core.List.{List}
use mathlib.Core.Path.{◌∙◌, ◌≡◌, ap, refl, subst}
use lib.ListN.{drop, get_or}
use Rattle.table.proofs.ColumnList.{listed-length, listed_next}
use Rattle.table.specs.ColumnList.{listed, no_column}
use Rattle.row_reading.proofs.Parts.{cells-closed, cells_open, cells-stopped, closed-within, listed-bound, read-end, read_more, read-start, read-stop}
use Rattle.row_reading.specs.Clauses.{PassesCell, flags_in}
use Rattle.rows.specs.Stream.{read_cells}
use Rattle.table.specs.Outcome.{at}
use Rattle.table.specs.Reasons.{number_of}
use Rattle.table.specs.Result.{bad, good}
use native.Mathlib.Omega.{arith}
use Rattle.row_reading.proofs.pass_cells.Goals as goal

pub loop-i-init : goal.loop-i-init
loop-i-init c =
    let flags_of : List Bool = flags_in c.args.from c.args.cols.count c.args.flags in
    (read-start c.args.from (listed c.args.cols) flags_of c.args.s.now c.args.body c.requires.1, refl)

pub offset_bounds-cols-i : goal.offset_bounds-cols-i
offset_bounds-cols-i c =
    let few : c.args.cols.count ≤ 64 = omega (arith, c.requires.0.few, listed-length c.args.cols) in
    omega (arith, few, c.loop-i-test.true)

pub bounds-cols-i : goal.bounds-cols-i
bounds-cols-i c =
    let few : c.args.cols.count ≤ 64 = omega (arith, c.requires.0.few, listed-length c.args.cols) in
    omega (arith, few, c.loop-i-test.true)

pub flag_of-flagged-requires : goal.flag_of-flagged-requires
flag_of-flagged-requires c =
    let few : c.args.cols.count ≤ 64 = omega (arith, c.requires.0.few, listed-length c.args.cols) in
    (c.loop-i-test.true, few)

pub pass_cell-requires : goal.pass_cell-requires
pass_cell-requires c =
    (c.loop-i.invariant.0.inside, listed-bound c.args.cols c.loop-i.i c.requires.0 c.loop-i-test.true, omega (arith, c.loop-i.invariant.1, c.requires.2))

-- a cell that does not read
pub returns-in-Err : goal.returns-in-Err
returns-in-Err c =
    let flags_of : List Bool = flags_in c.args.from c.args.cols.count c.args.flags in
    let cols = c.args.cols in
    let f = c.flag_of-flagged in
    let p = c.pass_cell in
    let t = c.loop-i-test.true in
    record {
      passes_cells = cells-stopped c.args.from (listed cols) flags_of c.args.s.now c.args.body _
          (read-stop c.args.from (listed cols) flags_of c.args.s.now c.args.body c.loop-i.at c.loop-i.i c.loop-i.invariant.0
          (get_or cols.list c.loop-i.i no_column) (listed_next cols c.loop-i.i t) f.result f.ensures _ (subst (PassesCell _ _ _) c.in-Err.is p.ensures.passes_cell));
      scratch_len_unchanged = p.ensures.scratch_len_unchanged ∙ c.loop-i.invariant.1;
    }

pub loop-i-preserved : goal.loop-i-preserved
loop-i-preserved c =
    let flags_of : List Bool = flags_in c.args.from c.args.cols.count c.args.flags in
    let cols = c.args.cols in
    let f = c.flag_of-flagged in
    let p = c.pass_cell in
    let t = c.loop-i-test.true in
    let x = subst (PassesCell _ _ _) c.in-Ok.is p.ensures.passes_cell in (
      read_more c.args.from (listed cols) flags_of c.args.s.now c.args.body c.loop-i.at c.loop-i.i c.loop-i.invariant.0 (get_or cols.list c.loop-i.i no_column)
          (listed_next cols c.loop-i.i t) f.result f.ensures
          x.0 _ (omega (arith, listed-length cols, t)) x.1 x.2 x.3,
      p.ensures.scratch_len_unchanged ∙ c.loop-i.invariant.1,
    )

pub end_row-requires : goal.end_row-requires
end_row-requires c = c.loop-i.invariant.0.inside

pub returns-in-Err-end_row : goal.returns-in-Err-end_row
returns-in-Err-end_row c =
    let flags_of : List Bool = flags_in c.args.from c.args.cols.count c.args.flags in
    let all_read : read_cells c.args.from (listed c.args.cols) flags_of 0 (drop c.args.body c.args.s.now) ≡ good (c.loop-i.invariant.0.acc, drop c.loop-i.at c.args.s.now) =
    (read-end c.args.from (listed c.args.cols) flags_of c.args.s.now c.args.body c.loop-i.at c.loop-i.i c.loop-i.invariant.0
    (omega (arith, listed-length c.args.cols, c.loop-i-test.false))) in
    let e = c.end_row in
    record {
      passes_cells = cells_open c.args.from (listed c.args.cols) flags_of c.args.s.now c.args.body _ _ all_read e.result e.ensures _
          c.in-Err-end_row.is
          ∙ ap (λ (k : ℕ). bad (at k (number_of c.in-Err-end_row.reason))) (listed-length c.args.cols);
      scratch_len_unchanged = c.loop-i.invariant.1;
    }

pub returns-in-Ok-end_row : goal.returns-in-Ok-end_row
returns-in-Ok-end_row c =
    let flags_of : List Bool = flags_in c.args.from c.args.cols.count c.args.flags in
    let all_read : read_cells c.args.from (listed c.args.cols) flags_of 0 (drop c.args.body c.args.s.now) ≡ good (c.loop-i.invariant.0.acc, drop c.loop-i.at c.args.s.now) =
    (read-end c.args.from (listed c.args.cols) flags_of c.args.s.now c.args.body c.loop-i.at c.loop-i.i c.loop-i.invariant.0
    (omega (arith, listed-length c.args.cols, c.loop-i-test.false))) in
    let e = c.end_row in
    let k = c.in-Ok-end_row.is in
    let w = closed-within c.args.from c.args.s.now c.loop-i.at e.result e.ensures _ k in
    record {
      passes_cells = (
        c.loop-i.invariant.0.acc,
        cells-closed c.args.from (listed c.args.cols) flags_of c.args.s.now c.args.body _ _ all_read e.result e.ensures _ k,
        omega (arith, w.0, c.loop-i.invariant.0.onward),
        w.1,
      );
      scratch_len_unchanged = c.loop-i.invariant.1;
    }
