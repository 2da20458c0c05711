-- `eights::first_of` meets its contract: with the bytes turned round the first mark is the lowest; and 0, turned round, has 64 zeros and no mark.
use Prim.Native.Nat.{ℕ}
use native.Mathlib.Omega.{arith}
use mathlib.Core.Bool.{Bool}
use mathlib.Core.List.{List, map}
use mathlib.Core.Path.{◌∙◌, ◌≡◌, sym}
use lib.Count.{trailing_of_zero}
use lib.ListN.{length, length-map}
use Rattle.number.specs.Number.{of_digits}
use Rattle.eights.specs.Lowest.{TurnedRound, of_lowest}
use Rattle.eights.specs.Marks.{mark}
use Rattle.eights.proofs.Lanes.{marks-bytes}
use Rattle.eights.proofs.Lowest.{first-is}
use Rattle.eights.proofs.Turning.{turned_round}
use Rattle.eights.proofs.first_of.Goals as goal

marks-turned : {m r : ℕ} → TurnedRound m r → (test : ℕ → Bool) (ds : List ℕ) → length ds ≡ 8 → m ≡ of_digits 256 0 (map (mark test) ds) → r ≡ of_lowest (map (mark test) ds)
marks-turned t test ds l e = t.turned_round (map (mark test) ds) (length-map ds (mark test) ∙ l) (marks-bytes test ds) e

pub returns-then-m-eq0 : goal.returns-then-m-eq0
returns-then-m-eq0 c = record {
  first = λ test ds l e. omega (arith, first-is 0 test ds l (marks-turned (turned_round 0) test ds l (sym c.if-m-eq0.true ∙ e)), trailing_of_zero 64);
}

pub returns : goal.returns
returns c = record { first = λ test ds l e. c.first_lowest.ensures.first test ds l (marks-turned c.turned.ensures test ds l e) }
