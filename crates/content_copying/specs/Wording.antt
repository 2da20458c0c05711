-- Words of integers that are written as they were read.
use Rattle.std.specs.Prelude.{◌-◌, ◌<◌, ◌^◌, ◌≤◌, suc, ℕ, List, [], ◌++◌, ◌∷◌, ◌≡◌, ℤ, drop, get_or, take, Option, Some, None}
use Rattle.content_reading.specs.Passing.{PassTo}
use Rattle.content_copying.specs.declared.Word.{Word}
use Rattle.integer_reading.specs.Figures.{is_digit}
use Rattle.moving.specs.Contents.{InText}
use Rattle.moving.specs.Puts.{Puts}
use Rattle.number.specs.Clauses.{is_signed, width_of}
use Rattle.number.specs.Number.{shortest}
use Rattle.number.specs.declared.Integer.{Integer}
use Rattle.table.specs.Shape.{Whole}
use Rattle.words.specs.Clauses.{top}

-- the numbers of so many digits are integers of the kind
pub record InRange (k : Integer) (n : ℕ) : Type 0 where
  pub range : 10 ^ n ≤ suc (top k)
  pub few : n ≤ 18

-- digits that are the shortest of their number
pub record Numeral (s : List ℕ) (from most next : ℕ) : Type 0 where
  pub run : PassTo is_digit s from next
  pub some : from < next
  pub few : next - from ≤ most
  pub first : 2 ≤ next - from → 49 ≤ get_or s from 0

abbrev pub NumeralTo : List ℕ → ℕ → ℕ → ℕ → Type 0
NumeralTo s from most next = (next ≡ from → ⊥) → Numeral s from most next

-- a word that is the shortest of its integer
pub record OwnWord (k : Integer) (s : List ℕ) (at next : ℕ) : Type 0 where
  pub z : ℤ
  pub reads : InText (Whole (is_signed k) (width_of k)) s at next (z ∷ [])
  pub own : take (next - at) (drop at s) ≡ shortest z
  pub some : at < next
  pub few : next - at ≤ 19

abbrev pub OwnTo : Integer → List ℕ → ℕ → ℕ → Type 0
OwnTo k s at next = (next ≡ at → ⊥) → OwnWord k s at next

-- a word and its integer in the buffer, a space behind it
pub record WordCopied (k : Integer) (s : List ℕ) (at : ℕ) (old : List ℕ) (o : ℕ) (new : List ℕ) (next e : ℕ) : Type 0 where
  pub z : ℤ
  pub reads : InText (Whole (is_signed k) (width_of k)) s at next (z ∷ [])
  pub puts : Puts old o (shortest z ++ (32 ∷ [])) new e

abbrev pub CopiesWord : Integer → List ℕ → ℕ → List ℕ → ℕ → List ℕ → Option Word → Type 0
CopiesWord k s at old o new (Some r) = WordCopied k s at old o new r.next r.end
CopiesWord k s at old o new None = Puts old o [] new o
