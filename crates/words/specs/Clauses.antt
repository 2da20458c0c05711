-- What the contracts of the code speak of beside the definitions: what its answers stand for, and words of plain digits.
use Rattle.std.specs.Prelude.{Err, None, Ok, Option, Result as Outcome, Some, ◌+◌, ◌-◌, ◌<◌, ◌≤◌, suc, zero, ℕ, Bool, cond, false, true, List, [], ◌∷◌, ◌≡◌, eqb, ltb, ℤ, drop, get_or, length, take}
use Rattle.number.specs.Clauses.{is_signed, size}
use Rattle.number.specs.Number.{Fault, Outside, Unwritten, digit, numeral, read_integer, with_sign}
use Rattle.number.specs.declared.Integer.{Integer}
use Rattle.number.specs.declared.Integer.TheVariants.{Int, Long, Short, UnsignedByte}
use Rattle.words.specs.declared.IntegerError.{IntegerError}
use Rattle.table.specs.All.{All}
use Rattle.table.specs.Bytes.{between, byte}
use Rattle.table.specs.Result.{Result, bad, good}

-- the largest integer of a kind
abbrev pub top : Integer → ℕ
top UnsignedByte = 255
top Short = 32767
top Int = 2147483647
top Long = 9223372036854775807

-- ---- what the answers of the code stand for

abbrev pub reading_of : Outcome ℤ IntegerError → Result Fault ℤ
reading_of (Ok z) = good z
reading_of (Err IntegerError.Outside) = bad Outside
reading_of (Err IntegerError.Unwritten) = bad Unwritten

-- ---- words of plain digits

-- how many of at most n characters from the front on are digits
unfoldable pub leading_digits : ℕ → List ℕ → ℕ
leading_digits zero s = 0
leading_digits (suc n) [] = 0
leading_digits (suc n) (b ∷ s) = cond (between (byte "0") (byte "9") b) (suc (leading_digits n s)) 0

-- the digits at a place, at most 18: the run of them ends at `next`, and is the numeral of `number`
pub record DigitsAt (s : List ℕ) (place : ℕ) (number next : ℕ) : Type 0 where
  pub next-is : next ≡ place + leading_digits 18 (drop place s)
  pub number_is : numeral digit 10 0 (take (leading_digits 18 (drop place s)) (drop place s)) ≡ good number

-- a run of `count` digits from a place on, with its numeral's number, as an integer: not where it is empty, or the number is above the kind's largest
abbrev pub quick_number : Integer → Bool → ℕ → ℕ → Result Fault ℕ → Option (ℤ × ℕ)
quick_number kind negative place count (good n) =
    cond (eqb count 0) None (cond (ltb (top kind) n) None (Some (with_sign negative n, place + count)))
quick_number kind negative place count (bad e) = None

-- the run of digits from a place on, at most 18, with this sign before it
unfoldable pub quick_run : Integer → Bool → List ℕ → ℕ → Option (ℤ × ℕ)
quick_run kind negative s place =
    let count = leading_digits 18 (drop place s) in quick_number kind negative place count (numeral digit 10 0 (take count (drop place s)))

-- a run's number with a sign
abbrev pub signed_as : Bool → Option (ℕ × ℕ) → Option (ℤ × ℕ)
signed_as negative (Some (n, next)) = Some (with_sign negative n, next)
signed_as negative None = None

-- the quick way: digits, or of a kind that has a sign a minus and digits; every other word is for the careful way
unfoldable pub quickly : Integer → List ℕ → ℕ → Option (ℤ × ℕ)
quickly kind s place =
    cond (eqb (get_or s place 0) (byte "-")) (cond (is_signed kind) (quick_run kind true s (place + 1)) None) (quick_run kind false s place)

-- digits and signs: characters of a text that stand for themselves
abbrev pub IsPlain : ℕ → Type 0
IsPlain b = (byte "+" ≤ b) × (b ≤ byte "9")

-- what the quick way answers is what the careful way would (proofs/QuickLaws.antt, quick-at): the word from a place up to `next` is a whole one of
-- plain characters, and reads as z
pub record QuickAt (kind : Integer) (s : List ℕ) (place : ℕ) (z : ℤ) (next : ℕ) : Type 0 where
  pub later : place < next
  pub within : next ≤ length s
  pub plain : All IsPlain (take (next - place) (drop place s))
  pub reads : read_integer (is_signed kind) (size kind) (take (next - place) (drop place s)) ≡ good z
