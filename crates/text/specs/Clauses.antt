-- What the functions on bytes answer, as the definitions have it.
use Rattle.std.specs.Prelude.{Option, None, Some, ◌≤◌, ℕ, cond, List, ◌≡◌, ltb, drop, length}
use Rattle.number.specs.Number.{Fault, Unwritten, digit, hexadigit}
use Rattle.table.specs.Bytes.{skip_white}
use Rattle.table.specs.Result.{Result, bad, good}

-- ---- white space and tags

-- `next` is the place after white space
pub record Skipped (s : List ℕ) (place next : ℕ) : Type 0 where
  pub rest : skip_white (drop place s) ≡ drop next s
  pub low : place ≤ next
  pub high : next ≤ length s

-- what follows, or the refusal of that number
abbrev pub tag_as : ℕ → List ℕ → Option ℕ → Result ℕ (List ℕ)
tag_as n s (Some next) = good (drop next s)
tag_as n s None = bad n

abbrev pub TagWithin : List ℕ → ℕ → Option ℕ → Type 0
TagWithin s place (Some next) = (place ≤ next) × (next ≤ length s)
TagWithin s place None = Unit {0}

-- the definition's answer, whichever number it refuses with
pub record TagIs (definition : ℕ → Result ℕ (List ℕ)) (s : List ℕ) (place : ℕ) (r : Option ℕ) : Type 0 where
  pub found : (n : ℕ) → definition n ≡ tag_as n s r
  pub within : TagWithin s place r

-- ---- digits

-- a digit's value below the base
unfoldable pub digit_in : ℕ → ℕ → Result Fault ℕ
digit_in base d = cond (ltb d base) (good d) (bad Unwritten)

-- what a byte is worth as a digit: 16 for what is no hexadigit
pub record DigitIs (c d : ℕ) : Type 0 where
  pub hexa : hexadigit c ≡ digit_in 16 d
  pub deci : digit c ≡ digit_in 10 d
  pub low : d ≤ 16
