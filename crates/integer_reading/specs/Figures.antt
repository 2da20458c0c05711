-- What the contracts of the functions on eight characters say: digits, and the number that they spell.
use Rattle.std.specs.Prelude.{◌+◌, ◌-◌, ◌<◌, ◌≤◌, ℕ, Bool, true, List, ◌++◌, map, ◌≡◌, drop, get_or, length, replicate, take, Option, Some, None}
use Rattle.std.specs.Int.Bits.{bit_xor}
use Rattle.integer_reading.specs.Runs.{Passes}
use Rattle.eights.specs.Lowest.{of_lowest}
use Rattle.moving.specs.declared.One.{One}
use Rattle.number.specs.Number.{of_digits}
use Rattle.table.specs.All.{All, AreBytes}
use Rattle.table.specs.Bytes.{between, byte}

-- "bit: `0` and `1` only"
unfoldable pub is_bit : ℕ → Bool
is_bit c = between (byte "0") (byte "1") c

unfoldable pub is_digit : ℕ → Bool
is_digit c = between (byte "0") (byte "9") c

-- what digits stand for
unfoldable pub figures : List ℕ → List ℕ
figures w = map (λ (c : ℕ). c - 48) w

-- r has the first n of the eight characters of x, without what makes them characters
pub record Leading (x n r : ℕ) : Type 0 where
  pub leading : (p : List ℕ) → length p ≡ 8 → AreBytes p → x ≡ of_digits 256 0 p → r ≡ of_digits 256 0 (map (λ (c : ℕ). bit_xor c 48) (take n p))

-- digits in base 256, read in another base
pub record ReadIn (base t r : ℕ) : Type 0 where
  pub read : (ds : List ℕ) → length ds ≤ 8 → AreBytes ds → t ≡ of_digits 256 0 ds → r ≡ of_digits base 0 ds

-- the byte of the first n of eight characters, which are bits: "padding 0"
pub record BitByte (x n r : ℕ) : Type 0 where
  pub padded : (p : List ℕ) → length p ≡ 8 → AreBytes p → x ≡ of_digits 256 0 p → All (λ (c : ℕ). is_bit c ≡ true) (take n p)
      → r ≡ of_digits 2 0 (figures (take n p) ++ replicate (8 - n) 0)

-- ---- a run of digits at a place

-- x has the eight bytes from a place on
abbrev pub EightAt : List ℕ → ℕ → ℕ → Type 0
EightAt s place x = x ≡ of_digits 256 0 (take 8 (drop place s))

-- how many there are, and their number
pub record FiguresAt (s : List ℕ) (place count number : ℕ) : Type 0 where
  pub digits : Passes is_digit s place count
  pub number_is : number ≡ of_digits 10 0 (figures (take count (drop place s)))

-- the place after a minus, which only the signed kinds have
pub data AfterMinus (signed : Bool) (s : List ℕ) (place : ℕ) : ℕ → Type 0 where
  no_minus : AfterMinus signed s place place
  a-minus : signed ≡ true → place < length s → get_or s place 0 ≡ byte "-" → AfterMinus signed s place (place + 1)

-- ---- a word of at most fifteen characters

-- the digits at the front of a text whose first eight characters x has, the first lowest, and which goes on as rest
pub record ShortRun (x : ℕ) (rest : List ℕ) (count number : ℕ) : Type 0 where
  pub figures-are : (p : List ℕ) → length p ≡ 8 → AreBytes p → x ≡ of_lowest p → FiguresAt (p ++ rest) 0 count number
  pub few : count ≤ 15

-- what is found ends before the end
abbrev pub EndsBefore : ℕ → Option One → Type 0
EndsBefore n (Some r) = r.next < n
EndsBefore n None = Unit {0}
