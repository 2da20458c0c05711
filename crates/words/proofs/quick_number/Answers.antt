-- `words::quick_number` meets its contract: a run that is empty, or whose number is above the kind's largest, is none; any other is its number.
use native.Mathlib.Omega.{arith}
use mathlib.Core.Path.{sym}
use Rattle.words.proofs.QuickLaws.{run_none, run-over, run_value}
use Rattle.words.proofs.quick_number.Goals as goal
use Rattle.words.proofs.quick_number.Goals.{then-next-at-via-then-next-at, then-next-at-via-else-next-at+then-top_of-number}

pub returns-then-next-at : goal.returns-then-next-at
returns-then-next-at c =
    let r = c.quick_digits-number.ensures in
    elim c.then-next-at.branch [
      | then-next-at-via-then-next-at v ↦ record { run = λ negative. sym (run_none _ _ _ _ r _ negative (omega arith)); small = tt }
      | then-next-at-via-else-next-at+then-top_of-number v ↦ record {
        run = λ negative. sym (run-over _ _ _ _ r _ negative (λ e. omega (arith, e)) (omega (arith, v.top_of.ensures)));
        small = tt;
      }
    ]

pub returns : goal.returns
returns c = record {
  run = λ negative. sym (run_value _ _ _ _ c.quick_digits-number.ensures _ negative (λ e. omega (arith, e)) (omega (arith, c.top_of.ensures)));
  small = omega (arith, c.top_of.ensures);
}
