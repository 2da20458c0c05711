-- What the contracts of the functions on cells say: each case of an answer as the definitions have it.
use Rattle.std.specs.Prelude.{Result as Returned, Ok, Err, Option, None, Some, ◌≤◌, ℕ, List, [], ◌≡◌, ℤ, drop, length, take}
use Rattle.table.specs.Cell.{Cell, null, shown}
use Rattle.table.specs.Result.{Result, bad, good}
use Rattle.table.specs.Reasons.{number_of}
use Rattle.table.specs.declared.Found.{Found}
use Rattle.table.specs.declared.Reason.{Reason}

-- what is found of a cell, with its elements in the scratch: null, or so many of them
abbrev pub shown_as : List ℤ → Option ℕ → Cell
shown_as scratch None = null
shown_as scratch (Some count) = shown (take count scratch)

-- what was found, with its elements in the scratch and `next` for what is left of the input; or the number of the refusal
abbrev pub found_as : List ℕ → List ℤ → Returned Found Reason → Result ℕ (Cell × List ℕ)
found_as s scratch (Ok f) = good (shown_as scratch f.shown, drop f.next s)
found_as s scratch (Err e) = bad (number_of e)

-- the elements are within the scratch
abbrev pub ShownWithin : List ℤ → Option ℕ → Type 0
ShownWithin scratch None = Unit {0}
ShownWithin scratch (Some count) = count ≤ length scratch

-- they are not more than `most`
abbrev pub ShownUpTo : ℕ → Option ℕ → Type 0
ShownUpTo most None = Unit {0}
ShownUpTo most (Some count) = count ≤ most

-- the place after the cell is within the input, and the elements are within the scratch
abbrev pub FoundWithin : List ℕ → ℕ → List ℤ → Returned Found Reason → Type 0
FoundWithin s place scratch (Ok f) = (place ≤ f.next) × (f.next ≤ length s) × ShownWithin scratch f.shown
FoundWithin s place scratch (Err e) = Unit {0}

-- a reader at a place of s gave r and left the scratch: r is what the definition reads of what is left. What the scratch held at entry plays
-- no part.
pub record Reads (definition : Result ℕ (Cell × List ℕ)) (s : List ℕ) (place : ℕ) (entry exit : List ℤ) (r : Returned Found Reason) : Type 0 where
  pub found : definition ≡ found_as s exit r
  pub within : FoundWithin s place exit r
  pub long : length exit ≡ length entry

-- the size of a form, or why there is none
abbrev pub size_as : Returned ℕ Reason → Result ℕ ℕ
size_as (Ok n) = good n
size_as (Err e) = bad (number_of e)

abbrev pub size_of : Result ℕ (List ℕ) → Result ℕ ℕ
size_of (good b) = good (length b)
size_of (bad n) = bad n

-- the bytes of a form, and none where there is none
abbrev pub form_bytes : Result ℕ (List ℕ) → List ℕ
form_bytes (good b) = b
form_bytes (bad n) = []
