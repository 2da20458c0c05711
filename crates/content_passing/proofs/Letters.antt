-- Booleans byte by byte: the letter that a byte is written as says which element it is.
use Prim.Native.Nat.{◌*◌, ◌+◌, ◌<◌, ◌≤◌, ℕ}
use mathlib.Core.Bool.{Bool, ◌||◌, false, true}
use mathlib.Core.Path.{◌≡◌, refl}
use borrow.Author.Tests.{eqb-true}
use lib.Dec.{eqb, lit≤}
use lib.IntN.{pos, ℤ}
use mir.Val.{bool_byte}
use Rattle.binary.specs.Binary.{truth}
use Rattle.content_passing.specs.Letters.{letter_of}
use Rattle.table.proofs.Laws.{cond_cases, each_below}
use Rattle.table.specs.Bytes.{byte}
use Rattle.table.specs.Cell.{truth_byte}
use Rattle.table.specs.Result.{Result, bad, good}

-- ---- the letter of a byte

pub flag-le : (t : Bool) → bool_byte t ≤ 1
flag-le true = lit≤ tt
flag-le false = lit≤ tt

abbrev pub is_true : ℕ → Bool
is_true b = eqb b (byte "T") || eqb b (byte "t") || eqb b (byte "1")

abbrev pub is_false : ℕ → Bool
is_false b = eqb b (byte "F") || eqb b (byte "f") || eqb b (byte "0")

abbrev pub is_unknown : ℕ → Bool
is_unknown b = eqb b 0 || eqb b (byte " ") || eqb b (byte "?")

-- as the code sums it
abbrev pub letter_sum : ℕ → ℕ
letter_sum b = bool_byte (is_true b) * 84 + bool_byte (is_false b) * 70 + bool_byte (is_unknown b) * 63

pub letter-is : (b : ℕ) → b < 256 → letter_sum b ≡ letter_of (truth b)
unfolding letter_of truth truth_byte
letter-is b h = eqb-true _ _ (each_below (λ (b : ℕ). eqb (letter_sum b) (letter_of (truth b))) 256 refl b h)

-- ---- the element of a letter

abbrev pub value_of : ℕ → ℕ
value_of letter = bool_byte (eqb letter (byte "T")) + bool_byte (eqb letter (byte "?")) * 2

pub letter-value : (b : ℕ) → (letter_of (truth b) ≡ 0 → ⊥) → truth b ≡ good (pos (value_of (letter_of (truth b))))
unfolding letter_of truth truth_byte
letter-value b =
    cond_cases P (is_true b) (good (pos 1)) _ (λ _ h. refl) (λ _.
    cond_cases P (is_false b) (good (pos 0)) _ (λ _ h. refl) (λ _.
    cond_cases P (is_unknown b) (good (pos 2)) (bad 11) (λ _ h. refl) (λ _ h. absurd (h refl))))
  where
    P : Result ℕ ℤ → Type 0
    P r = (letter_of r ≡ 0 → ⊥) → r ≡ good (pos (value_of (letter_of r)))
