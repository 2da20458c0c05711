-- What the contracts of the code speak of beside the definitions: each case of an answer as the definitions have it.
use Rattle.std.specs.Prelude.{Result as Returned, Ok, Err, ◌≤◌, ℕ, cond, List, ◌≡◌, ltb, pos, ℤ, drop, length, take}
use Rattle.binary_reading.specs.declared.Count.{Count}
use Rattle.table.specs.Reasons.{number_of}
use Rattle.table.specs.Result.{Result, bad, good}
use Rattle.table.specs.declared.Reason.{Reason}

-- ---- the count of a cell

-- a count, with `next` for what is left of the input
abbrev pub count_as : List ℕ → Returned Count Reason → Result ℕ (ℕ × List ℕ)
count_as s (Ok c) = good (c.elements, drop c.next s)
count_as s (Err e) = bad (number_of e)

abbrev pub CountWithin : List ℕ → ℕ → ℕ → Returned Count Reason → Type 0
CountWithin s place most (Ok c) = (place ≤ c.next) × (c.next ≤ length s) × (c.elements ≤ most)
CountWithin s place most (Err e) = Unit {0}

-- a count is what the definition reads, and is at most `most`
pub record Counts (definition : Result ℕ (ℕ × List ℕ)) (s : List ℕ) (place most : ℕ) (r : Returned Count Reason) : Type 0 where
  pub found : definition ≡ count_as s r
  pub within : CountWithin s place most r

-- ---- the content of a cell

-- the elements that stand in the scratch
abbrev pub content_as : List ℤ → Returned ℕ Reason → Result ℕ (List ℤ)
content_as scratch (Ok n) = good (take n scratch)
content_as scratch (Err e) = bad (number_of e)

abbrev pub ContentWithin : ℕ → Returned ℕ Reason → Type 0
ContentWithin most (Ok n) = n ≤ most
ContentWithin most (Err e) = Unit {0}

-- the elements are what the definition reads, and are at most `most`
pub record Fills (definition : Result ℕ (List ℤ)) (most : ℕ) (entry exit : List ℤ) (r : Returned ℕ Reason) : Type 0 where
  pub found : definition ≡ content_as exit r
  pub within : ContentWithin most r
  pub long : length exit ≡ length entry

-- a boolean's element, where 3 stands for none
abbrev pub truth_as : ℕ → Result ℕ ℤ
truth_as r = cond (ltb r 3) (good (pos r)) (bad 11)
