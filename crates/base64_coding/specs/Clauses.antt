-- What the functions of this crate promise each other, in terms of `decode` and `encode`: views of their answers.
use Rattle.std.specs.Prelude.{◌%◌, ◌*◌, ◌+◌, ◌/◌, ◌<◌, ◌≤◌, suc, zero, ℕ, cond, List, [], ◌++◌, ◌∷◌, ◌≡◌, ltb, drop, get_or, length, take}
use Rattle.std.specs.Prelude.{Option, None, Some, Result as Outcome, Ok, Err}
use Rattle.std.proofs.lemmas.List.Edits.{sets}
use Rattle.base64_rules.specs.Base64.{decode, dense}
use Rattle.base64_coding.specs.declared.decoding.Four.{Four}
use Rattle.base64_letters.specs.Letters.{none, letter_value}
use Rattle.table.specs.All.{All}
use Rattle.table.specs.Reasons.{number_of}
use Rattle.table.specs.declared.Answer.{Answer}
use Rattle.table.specs.declared.Reason.{Reason}
use Rattle.table.specs.Result.{Result, ◌>>=◌, bad, good}

-- ---- letters

-- characters below 128, which alone are places of the table
abbrev pub Low : List ℕ → Type 0
Low s = All (λ (c : ℕ). c < 128) s

-- the highest of a number and some bytes
unfoldable pub highest_from : ℕ → List ℕ → ℕ
highest_from most [] = most
highest_from most (c ∷ s) = highest_from (cond (ltb most c) c most) s

-- ---- one character after the other

-- what is left of the text, white space aside
abbrev pub left : List ℕ → Option (ℕ × ℕ) → List ℕ
left s None = []
left s (Some (c, j)) = c ∷ dense (drop j s)

abbrev pub NextWithin : List ℕ → ℕ → Option (ℕ × ℕ) → Type 0
NextWithin s i None = Unit {0}
NextWithin s i (Some (c, j)) = (i < j) × (j ≤ length s)

pub record NextIs (s : List ℕ) (i : ℕ) (r : Option (ℕ × ℕ)) : Type 0 where
  pub rest : dense (drop i s) ≡ left s r
  pub places : NextWithin s i r

-- ---- bytes, and then those that the rest gives

abbrev pub before : List ℕ → Result ℕ (List ℕ) → Result ℕ (List ℕ)
before p r = r >>= λ q. good (p ++ q)

-- one, two or three bytes, or why none
abbrev pub bytes_as : Option (List ℕ) → Result ℕ (List ℕ)
bytes_as (Some b) = good b
bytes_as None = bad 7

-- what an answer says of the text
abbrev pub given : List ℕ → Option Four → Result ℕ (List ℕ)
given s None = bad 7
given s (Some f) = before (take f.count f.bytes) (decode (drop f.next s))

-- with fewer than three bytes nothing follows
abbrev pub FourWithin : List ℕ → ℕ → Option Four → Type 0
FourWithin s i None = Unit {0}
FourWithin s i (Some f) = (f.count ≤ 3) × (i + f.count ≤ f.next) × (f.next ≤ length s) × (f.count < 3 → decode (drop f.next s) ≡ good [])

pub record FourIs (s : List ℕ) (i : ℕ) (r : Option Four) : Type 0 where
  pub rest : decode (drop i s) ≡ given s r
  pub places : FourWithin s i r

-- ---- runs of letters, four at a time

abbrev pub value_at : List ℕ → ℕ → ℕ
value_at s i = letter_value (get_or s i 0)

-- four of them from a place on
unfoldable pub values_at : List ℕ → ℕ → List ℕ
values_at s i = value_at s i ∷ value_at s (i + 1) ∷ value_at s (i + 2) ∷ value_at s (i + 3) ∷ []

-- none is over what stands for no letter
abbrev pub Bounded : List ℕ → Type 0
Bounded v = (get_or v 0 0 ≤ none) × (get_or v 1 0 ≤ none) × (get_or v 2 0 ≤ none) × (get_or v 3 0 ≤ none)

abbrev pub four_sum : List ℕ → ℕ
four_sum v = get_or v 0 0 + get_or v 1 0 + get_or v 2 0 + get_or v 3 0

-- four values as the digits of one number
abbrev pub four_number : List ℕ → ℕ
four_number v = ((get_or v 0 0 * 64 + get_or v 1 0) * 64 + get_or v 2 0) * 64 + get_or v 3 0

-- its three bytes
abbrev pub number_bytes : ℕ → List ℕ
number_bytes n = n / 65536 ∷ n / 256 % 256 ∷ n % 256 ∷ []

-- the bytes of so many fours
unfoldable pub fours_bytes : List ℕ → ℕ → ℕ → List ℕ
fours_bytes s from zero = []
fours_bytes s from (suc g) = fours_bytes s from g ++ number_bytes (four_number (values_at s (from + 4 * g)))

-- from one place to the other stand fours of letters: their bytes, and then what the rest gives
pub record LettersTo (s : List ℕ) (from to : ℕ) : Type 0 where
  pub count : ℕ
  pub far : to ≡ from + 4 * count
  pub within : to ≤ length s
  pub rest : decode (drop from s) ≡ before (fours_bytes s from count) (decode (drop to s))

-- ---- a whole text

-- how many bytes, with n before them; or the refusal's number
unfoldable pub decoded_size : ℕ → Result ℕ (List ℕ) → Result ℕ ℕ
decoded_size n (bad e) = bad e
decoded_size n (good b) = good (n + length b)

-- there are bytes, and they fit from n on
unfoldable pub FitsAt : ℕ → Result ℕ (List ℕ) → ℕ → Type 0
FitsAt n (bad e) room = ⊥
FitsAt n (good b) room = n + length b ≤ room

-- the buffer with the bytes from n on
unfoldable pub buffer_with : List ℕ → ℕ → Result ℕ (List ℕ) → List ℕ
buffer_with out n (bad e) = out
buffer_with out n (good b) = sets out n b

-- ---- answers

-- a refusal with this number, and acceptance with so many bytes
abbrev pub refusal_of : ℕ → Answer
refusal_of n = record { number = n; row = 0; column = 0; rows = 0; bytes = 0 }

abbrev pub acceptance_of : ℕ → Answer
acceptance_of n = record { number = 0; row = 0; column = 0; rows = 0; bytes = n }

-- so many bytes written, or why none, as an answer
abbrev pub answer_as : Outcome ℕ Reason → Answer
answer_as (Ok n) = acceptance_of n
answer_as (Err e) = refusal_of (number_of e)
