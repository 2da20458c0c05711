-- finding::find_from: the loop over the rows before it (Skipped: what is fetched is what is fetched from here, behind those that are left), then the row;
-- each way out is one law of Finding.
use Prim.Native.Nat.{◌+◌, ◌-◌}
use mathlib.Core.Path.{◌∙◌, ◌≡◌, subst, sym}
use Rattle.finding.proofs.Finding.{Skipped, find-stop, find-there, skip-more, skip-start, skip_stop}
use Rattle.finding.specs.Clauses.{Finds}
use Rattle.table.proofs.Failures.{handed-on}
use Rattle.table.specs.ColumnList.{listed}
use native.Mathlib.Omega.{arith}
use Rattle.finding.proofs.find_from.Goals as goal

pub returns-in_err-at : goal.returns-in_err-at
returns-in_err-at c =
    let a = c.args in
    let l = c.loop in
    subst (Finds _ _ _ _) (sym (handed-on c.from_residual.ensures.1))
    (skip_stop a.from (listed a.cols) a.s.now a.start a.before l.at (a.before - l.counter) l.invariant.0 (omega arith) _ _ c.in_err-at.ensures.passes_row)

pub loop-preserved : goal.loop-preserved
loop-preserved c =
    let a = c.args in
    let l = c.loop in
    let h = c.in_ok-at.ensures.passes_row in
    let fewer : a.before - (l.counter + 1) ≡ a.before - l.counter - 1 = omega arith in (
      rw fewer (skip-more a.from (listed a.cols) a.s.now a.start a.before l.at (a.before - l.counter) l.invariant.0 (omega arith) h.0 _ h.1 h.3),
      c.in_ok-at.ensures.scratch_len_unchanged ∙ l.invariant.1,
    )

pub returns-in_err-next : goal.returns-in_err-next
returns-in_err-next c =
    let a = c.args in
    let l = c.loop in
    subst (Finds _ _ _ _) (sym (handed-on c.from_residual-in_err-next.ensures.1))
    (find-stop a.from (listed a.cols) a.s.now a.start a.before l.at (a.before - l.counter) l.invariant.0 (omega arith) _ _ c.in_err-next.ensures.passes_row)

pub returns : goal.returns
returns c =
    let a = c.args in
    let l = c.loop in
    let h = c.in_ok-next.ensures.passes_row in
    find-there a.from (listed a.cols) a.s.now a.start a.before l.at (a.before - l.counter) l.invariant.0 (omega arith) h.0 _ h.1 h.2 h.3
