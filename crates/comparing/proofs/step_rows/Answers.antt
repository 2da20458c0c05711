-- comparing::step_rows: the loop over rows (SteppedTo); each way out and each turn is one law of Stepping.
use Prim.Native.Nat.{◌-◌, ◌≤◌}
use mathlib.Core.Logic.{inl}
use mathlib.Core.Path.{◌∙◌, ◌≡◌, refl, subst, sym}
use lib.ListN.{length}
use Rattle.comparing.proofs.Stepping.{SteppedTo, step_end, step-more, step_start, stopped, unread-left}
use Rattle.row_comparing.specs.Clauses.{PairsRow}
use Rattle.table.proofs.ColumnList.{listed-length}
use Rattle.table.specs.ColumnList.{listed}
use borrow.Author.Rules.{rules}
use native.Mathlib.Omega.{arith}
use Rattle.comparing.proofs.step_rows.Goals as goal

pub loop-cols-init : goal.loop-cols-init
loop-cols-init c =
    (step_start c.args.from c.args.kind (listed c.args.cols) c.args.first.now c.args.second.now c.args.start c.args.places.now c.requires.2, refl, refl, refl)

pub steps_on-requires : goal.steps_on-requires
steps_on-requires c = (c.loop-cols.invariant.0.first.inside, c.loop-cols.invariant.0.second.inside)

pub compare_here-requires : goal.compare_here-requires
compare_here-requires c =
    let inv = c.loop-cols.invariant in
    (c.requires.0, inv.0.first.inside, inv.0.second.inside, omega (arith, inv.2, c.requires.3), omega (arith, inv.3, c.requires.4))

pub overflow_cast-here : goal.overflow_cast-here
overflow_cast-here c =
    omega (arith, c.loop-cols.invariant.0.first.fewer, c.loop-cols.invariant.0.first.inside, c.requires.1)

pub note_row-differing-requires : goal.note_row-differing-requires
note_row-differing-requires c =
    let few : c.args.cols.count ≤ 64 = omega (arith, c.requires.0.few, listed-length c.args.cols) in
    (few, omega (arith, few, c.loop-cols.invariant.0.few, c.loop-cols.invariant.0.first.fewer, c.loop-cols.invariant.0.first.inside, c.requires.1))

pub overflow_add-here : goal.overflow_add-here
overflow_add-here c =
    let inv = c.loop-cols.invariant in
    omega (arith, inv.0.first.fewer, inv.0.first.inside, c.requires.1)

pub loop-cols-smaller : goal.loop-cols-smaller
loop-cols-smaller c =
    let h = subst (PairsRow _ _ _ _ _ _ _) c.in-Some.is c.compare_here.ensures.pairs_row in
    omega (arith, h.within.0, h.within.1)

pub loop-cols-preserved : goal.loop-cols-preserved
loop-cols-preserved c =
    let p = c.compare_here in
    let inv = c.loop-cols.invariant in
    let n = c.note_row-differing in
    let more = sym c.steps_on.ensures ∙ c.loop-cols-test.true in
    let h = subst (PairsRow _ _ _ _ _ _ _) c.in-Some.is p.ensures.pairs_row in (
      step-more c.args.from c.args.kind (listed c.args.cols) c.args.first.now c.args.second.now c.args.start c.args.places.now c.requires.0 _ _ _ _ inv.0 _ more
          c.args.cols.count (listed-length c.args.cols) _ _ _ h _ _ n.ensures _ c.last_same-same.ensures,
      n.ensures.long ∙ inv.1,
      p.ensures.a_len_unchanged ∙ inv.2,
      p.ensures.b_len_unchanged ∙ inv.3,
    )

pub returns-after-loop-cols : goal.returns-after-loop-cols
returns-after-loop-cols c =
    let inv = c.loop-cols.invariant in
    record {
      steps = step_end c.args.from c.args.kind (listed c.args.cols) c.args.first.now c.args.second.now c.args.start c.args.places.now c.requires.0 _ _ _ _ inv.0
          c.args.most
          (stopped c.args.from c.args.kind (listed c.args.cols) c.requires.0 c.args.first.now c.args.second.now c.loop-cols.here c.loop-cols.differing c.args.most
          (sym c.steps_on.ensures ∙ c.loop-cols-test.false));
      a_len_unchanged = inv.2;
      b_len_unchanged = inv.3;
    }

pub returns-in_default : goal.returns-in_default
returns-in_default c =
    let inv = c.loop-cols.invariant in
    let p = c.compare_here in
    let more = sym c.steps_on.ensures ∙ c.loop-cols-test.true in
    let u = subst (PairsRow _ _ _ _ _ _ _) c.in_default.is p.ensures.pairs_row in
    record {
      steps = step_end c.args.from c.args.kind (listed c.args.cols) c.args.first.now c.args.second.now c.args.start c.args.places.now c.requires.0 _ _ _ _ inv.0
          c.args.most
          (inl (unread-left c.args.from c.args.kind (listed c.args.cols) c.requires.0 c.args.first.now c.args.second.now c.loop-cols.here c.loop-cols.differing c.args.most
          more u));
      a_len_unchanged = p.ensures.a_len_unchanged ∙ inv.2;
      b_len_unchanged = p.ensures.b_len_unchanged ∙ inv.3;
    }
