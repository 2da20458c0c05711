-- row_reading::pass_rows: the loop over rows (RowsPassed: the count from the start on is the count of going on from here); each way out is one law
-- of PassedRows.
use mathlib.Core.Bool.{false}
use mathlib.Core.Path.{◌∙◌, ◌≡◌, refl, subst, sym}
use lib.ListN.{drop}
use Rattle.table.specs.ColumnList.{listed}
use Rattle.row_reading.proofs.PassedRows.{pass-end, pass-more, pass-start, pass-stop}
use Rattle.row_reading.specs.Clauses.{PassesRow}
use Rattle.rows.specs.Stream.{at_end}
use native.Mathlib.Omega.{arith}
use Rattle.row_reading.proofs.pass_rows.Goals as goal

pub loop-cols-init : goal.loop-cols-init
loop-cols-init c =
    (pass-start c.args.from (listed c.args.cols) c.args.s.now c.args.start c.args.before c.requires.1 c.requires.2, refl)

pub at_end-requires : goal.at_end-requires
at_end-requires c = c.loop-cols.invariant.0.inside

pub pass_row-requires : goal.pass_row-requires
pass_row-requires c =
    (c.requires.0, c.loop-cols.invariant.0.inside, omega (arith, c.loop-cols.invariant.1, c.requires.3))

pub returns-in-Err : goal.returns-in-Err
returns-in-Err c =
    let left : at_end c.args.from (drop c.loop-cols.at c.args.s.now) ≡ false = sym c.at_end.ensures ∙ c.loop-cols-test.true in
    let p = c.pass_row in
    let h = subst (PassesRow _ _ _) c.in-Err.is p.ensures.passes_row in
    record {
      value = rw c.number.ensures (pass-stop c.args.from (listed c.args.cols) c.args.s.now c.args.start c.args.before c.requires.0 c.loop-cols.at c.loop-cols.rows
          c.loop-cols.invariant.0 left _ _ h);
      scratch_len_unchanged = p.ensures.scratch_len_unchanged ∙ c.loop-cols.invariant.1;
    }

pub overflow_add-rows : goal.overflow_add-rows
overflow_add-rows c =
    let h = subst (PassesRow _ _ _) c.in-Ok.is c.pass_row.ensures.passes_row in
    omega (arith, c.loop-cols.invariant.0.fewer, h.2, h.3, c.well_formed)

pub loop-cols-smaller : goal.loop-cols-smaller
loop-cols-smaller c =
    let h = subst (PassesRow _ _ _) c.in-Ok.is c.pass_row.ensures.passes_row in
    omega (arith, h.2, h.3)

pub loop-cols-preserved : goal.loop-cols-preserved
loop-cols-preserved c =
    let left : at_end c.args.from (drop c.loop-cols.at c.args.s.now) ≡ false = sym c.at_end.ensures ∙ c.loop-cols-test.true in
    let p = c.pass_row in
    let h = subst (PassesRow _ _ _) c.in-Ok.is p.ensures.passes_row in (
      pass-more c.args.from (listed c.args.cols) c.args.s.now c.args.start c.args.before c.requires.0 c.loop-cols.at c.loop-cols.rows c.loop-cols.invariant.0
          left h.0 _ h.1 h.2 h.3,
      p.ensures.scratch_len_unchanged ∙ c.loop-cols.invariant.1,
    )

pub returns : goal.returns
returns c =
    record {
      value = pass-end c.args.from (listed c.args.cols) c.args.s.now c.args.start c.args.before c.requires.0 c.loop-cols.at c.loop-cols.rows c.loop-cols.invariant.0
          (sym c.at_end.ensures ∙ c.loop-cols-test.false);
      scratch_len_unchanged = c.loop-cols.invariant.1;
    }
