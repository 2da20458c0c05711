-- indexing::enter_rows: the loop over rows (RowsEntered: the index of the whole stream is the entries so far and what going on from here gives); each
-- way out is one law of Entering.
use Prim.Native.Nat.{◌-◌}
use mathlib.Core.Bool.{false}
use mathlib.Core.Path.{◌∙◌, ◌≡◌, ap, refl, subst, sym}
use lib.ListN.{drop, length}
use Rattle.indexing.proofs.Entering.{RowsEntered, enter-end, enter-lacks, enter-more, enter-start, enter-stop, entered-at-long, entered-long}
use Rattle.row_reading.specs.Clauses.{PassesRow}
use Rattle.rows.specs.Stream.{at_end}
use Rattle.table.specs.ColumnList.{listed}
use borrow.Author.Rules.{rules}
use borrow.Author.Tests.{not-false, not-true}
use native.Mathlib.Omega.{arith}
use Rattle.indexing.proofs.enter_rows.Goals as goal

pub loop-cols-init : goal.loop-cols-init
loop-cols-init c =
    (enter-start c.args.from (listed c.args.cols) c.args.s.now c.args.index.now, refl)

pub at_end-requires : goal.at_end-requires
at_end-requires c = c.loop-cols.invariant.0.inside

pub pass_row-requires : goal.pass_row-requires
pass_row-requires c =
    (c.requires.0, c.loop-cols.invariant.0.inside, omega (arith, c.loop-cols.invariant.1, c.requires.2))

pub returns-in-Err : goal.returns-in-Err
returns-in-Err c =
    let left : at_end c.args.from (drop c.loop-cols.at c.args.s.now) ≡ false = sym c.at_end.ensures ∙ c.loop-cols-test.true in
    let h = subst (PassesRow _ _ _) c.in-Err.is c.pass_row.ensures.passes_row in
    let g = enter-stop c.args.from (listed c.args.cols) c.args.s.now c.args.index.now c.requires.0 c.loop-cols.at c.loop-cols.rows c.loop-cols.index c.loop-cols.invariant.0
    left _ _ h in record { value = c.stop.ensures ∙ g.0; index_after = g.1 }

pub overflow_cast-at : goal.overflow_cast-at
overflow_cast-at c =
    record { fits = omega (arith, c.loop-cols.invariant.0.inside, c.requires.1) }

pub returns-then-not-enter : goal.returns-then-not-enter
returns-then-not-enter c =
    let left : at_end c.args.from (drop c.loop-cols.at c.args.s.now) ≡ false = sym c.at_end.ensures ∙ c.loop-cols-test.true in
    let h = subst (PassesRow _ _ _) c.in-Ok.is c.pass_row.ensures.passes_row in
    let g = enter-lacks c.args.from (listed c.args.cols) c.args.s.now c.args.index.now c.requires.0 c.loop-cols.at c.loop-cols.rows c.loop-cols.index c.loop-cols.invariant.0
    left h.0 c.in-Ok.next h.1 (sym c.enter.ensures.value ∙ c.if-not-enter.true) in record { value = c.stop-then-not-enter.ensures ∙ g.0; index_after = c.enter.ensures.index_after ∙ g.1 }

pub overflow_add-rows : goal.overflow_add-rows
overflow_add-rows c =
    let h = subst (PassesRow _ _ _) c.in-Ok.is c.pass_row.ensures.passes_row in
    omega (arith, c.loop-cols.invariant.0.fewer, h.2, h.3, c.requires.1)

pub loop-cols-smaller : goal.loop-cols-smaller
loop-cols-smaller c =
    let h = subst (PassesRow _ _ _) c.in-Ok.is c.pass_row.ensures.passes_row in
    omega (arith, h.2, h.3)

pub loop-cols-preserved : goal.loop-cols-preserved
loop-cols-preserved c =
    let left : at_end c.args.from (drop c.loop-cols.at c.args.s.now) ≡ false = sym c.at_end.ensures ∙ c.loop-cols-test.true in
    let h = subst (PassesRow _ _ _) c.in-Ok.is c.pass_row.ensures.passes_row in
    let g = enter-more c.args.from (listed c.args.cols) c.args.s.now c.args.index.now c.requires.0 c.loop-cols.at c.loop-cols.rows c.loop-cols.index c.loop-cols.invariant.0
    left h.0 _ h.1 (sym c.enter.ensures.value ∙ c.if-not-enter.false) h.2 h.3 in (
      subst (RowsEntered _ _ _ _ _ _) (sym c.enter.ensures.index_after) g,
      c.pass_row.ensures.scratch_len_unchanged ∙ c.loop-cols.invariant.1,
    )

pub returns : goal.returns
returns c =
    let whole = enter-end c.args.from (listed c.args.cols) c.args.s.now c.args.index.now c.requires.0 c.loop-cols.at c.loop-cols.rows c.loop-cols.index c.loop-cols.invariant.0
    (sym c.at_end.ensures ∙ c.loop-cols-test.false) in
    record { value = whole.0; index_after = whole.1 }
