-- What the contracts of the functions on a text's elements say: those that were read stand in the scratch.
use Rattle.std.specs.Prelude.{Err, None, Ok, Option, Result as Outcome, Some, ◌+◌, ◌-◌, ◌≤◌, ℕ, Bool, false, true, List, ◌++◌, map, ◌≡◌, pos, ℤ, drop, length, take}
use Rattle.table.specs.Result.{Result, ◌>>=◌, bad, good}
use Rattle.table.specs.Shape.{Shape}
use Rattle.tabledata.specs.TableData.{all_text, bit_letter, text_elements}
use Rattle.character_reading.specs.Characters.{characters_of}
use Rattle.character_reading.specs.declared.characters.Source.{Source}
use Rattle.element_reading.specs.declared.elements.Held.{Held}
use Rattle.table.specs.Reasons.{number_of}
use Rattle.table.specs.declared.Reason.{Reason}

-- what g makes of a text's characters, and what follows the text
unfoldable pub onward : (List ℕ → Result ℕ (List ℤ)) → Result ℕ (List ℕ × List ℕ) → Result ℕ (List ℤ × List ℕ)
onward g r = r >>= λ p. g p.0 >>= λ es. good (es, p.1)

-- a text's elements from its first character on, and what follows it
unfoldable pub elements_from : Source → Shape → List ℕ → Result ℕ (List ℤ × List ℕ)
elements_from source k s = onward (text_elements k) (characters_of source s)

-- the elements are counted; the scratch has those that it has room for
pub record Stored (es : List ℤ) (count : ℕ) (scratch : List ℤ) : Type 0 where
  pub all : count ≡ length es
  pub first : take count scratch ≡ take (length scratch) es

abbrev pub TakenAs : Result ℕ (List ℤ × List ℕ) → List ℕ → ℕ → List ℤ → Outcome Held Reason → Type 0
TakenAs definition s place scratch (Ok held) =
    (es : List ℤ) × (definition ≡ good (es, drop held.next s)) × Stored es held.count scratch × (place ≤ held.next) × (held.next ≤ length s)
TakenAs definition s place scratch (Err e) = definition ≡ bad (number_of e)

pub record TakesElements (definition : Result ℕ (List ℤ × List ℕ)) (s : List ℕ) (place : ℕ) (entry exit : List ℤ) (r : Outcome Held Reason) : Type 0 where
  pub found : TakenAs definition s place exit r
  pub long : length exit ≡ length entry

-- a plain part is counted whole
abbrev pub CountedAs : Result ℕ (List ℤ) → List ℤ → Outcome ℕ Reason → Type 0
CountedAs definition scratch (Ok count) = (es : List ℤ) × (definition ≡ good es) × Stored es count scratch
CountedAs definition scratch (Err e) = definition ≡ bad (number_of e)

pub record CountsElements (definition : Result ℕ (List ℤ)) (entry exit : List ℤ) (r : Outcome ℕ Reason) : Type 0 where
  pub found : CountedAs definition exit r
  pub long : length exit ≡ length entry

-- the text from one place to another has the characters w: whatever is made of the text from the one is made of w and the text from the other
pub record Passed (source : Source) (s : List ℕ) (from next : ℕ) (w : List ℕ) : Type 0 where
  pub passes : (g : List ℕ → Result ℕ (List ℤ))
      → onward g (characters_of source (drop from s)) ≡ onward (λ cs. g (w ++ cs)) (characters_of source (drop next s))

-- ---- char

pub record Copied (s : List ℕ) (from count : ℕ) (entry exit : List ℤ) (next : ℕ) : Type 0 where
  pub passed : (source : Source) → Passed source s from next (take (next - from) (drop from s))
  pub text : all_text (take (next - from) (drop from s)) ≡ true
  pub stored : (es : List ℤ) → Stored es count entry → Stored (es ++ map pos (take (next - from) (drop from s))) (count + (next - from)) exit
  pub low : from ≤ next
  pub high : next ≤ length s
  pub long : length exit ≡ length entry

-- ---- bit

abbrev pub bit_as : Option ℕ → Result ℕ ℤ
bit_as (Some r) = good (pos r)
bit_as None = bad 11

abbrev pub BitIs : Bool → ℕ → Option ℕ → Type 0
BitIs true c r = r ≡ None
BitIs false c r = bit_as r ≡ bit_letter c
