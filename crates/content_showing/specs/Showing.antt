-- What the contracts speak of beside the definitions: the parts of what is put.
use Rattle.std.specs.Prelude.{List, [], ◌++◌, ◌∷◌, map, ◌%◌, ◌+◌, ◌-◌, ◌/◌, ℕ, length, replicate, negsuc, pos, ℤ, Bool, ◌&&◌, ◌||◌, cond, not, ◌≡◌, eqb, ltb}
use Rattle.binary.specs.Binary.{bits_of}
use Rattle.decimals.specs.Clauses.{numerals}
use Rattle.moving.specs.Puts.{Puts}
use Rattle.number.specs.Number.{shortest}
use Rattle.table.specs.All.{All}
use Rattle.table.specs.Bytes.{between, byte, bytes}

-- "no `+`"
unfoldable pub sign : ℤ → List ℕ
sign (pos n) = []
sign (negsuc n) = byte "-" ∷ []

-- a number from 100,000,000 on in parts of eight digits: the first, of as many as are left, and the one between it and the last, where there is one
unfoldable pub first_part : ℕ → ℕ
first_part v = cond (ltb v 10000000000000000) (v / 100000000) (v / 10000000000000000)

unfoldable pub middle_part : ℕ → List ℕ
middle_part v = cond (ltb v 10000000000000000) [] (numerals 8 (v / 100000000 % 100000000))

-- ---- characters

-- a char that is written as itself and is not white space
unfoldable pub is_itself : ℕ → Bool
is_itself b = between 32 127 b && not (eqb b (byte "&")) && not (eqb b (byte "<")) && not (eqb b (byte ">"))

-- the bytes of another char that has a form
unfoldable pub reference : ℕ → List ℕ
reference b =
    cond (eqb b (byte "&")) (bytes "&amp;")
    (cond (eqb b (byte "<")) (bytes "&lt;")
    (cond (eqb b (byte ">")) (bytes "&gt;")
    (cond (eqb b 13) (bytes "&#xD;")
    (cond (eqb b 9) (9 ∷ []) (cond (eqb b 10) (10 ∷ []) [])))))

-- up to eight bytes, filled up to eight
unfoldable pub filled : List ℕ → List ℕ
filled b = b ++ replicate (8 - length b) 0

-- ---- integers

-- an unsigned byte and a space
unfoldable pub byte_word : ℕ → List ℕ
byte_word b = shortest (pos b) ++ (32 ∷ [])

-- ---- bits

-- a character for each bit of bytes
unfoldable pub bit_letters : List ℕ → List ℕ
bit_letters s = map (λ (d : ℕ). d + 48) (bits_of s)

-- ---- booleans

-- what a boolean's byte is written as, and 0 for a byte that is none
unfoldable pub truth_shown : ℕ → ℕ
truth_shown b =
    cond (eqb b (byte "T") || eqb b (byte "t") || eqb b (byte "1")) (byte "T")
    (cond (eqb b (byte "F") || eqb b (byte "f") || eqb b (byte "0")) (byte "F")
    (cond (eqb b 0x00 || eqb b 0x20 || eqb b 0x3F) (byte "?") 0))

-- each with a space behind it
unfoldable pub truth_letters : List ℕ → List ℕ
truth_letters [] = []
truth_letters (b ∷ s) = truth_shown b ∷ 32 ∷ truth_letters s

-- a byte of a boolean
abbrev pub IsTruth : ℕ → Type 0
IsTruth b = truth_shown b ≡ 0 → ⊥

-- they are put, and where none is bad each is a boolean's
pub record TruthsPut (p old : List ℕ) (o : ℕ) (new : List ℕ) (next bad : ℕ) : Type 0 where
  pub puts : Puts old o (truth_letters p) new next
  pub all : bad ≡ 0 → All IsTruth p
