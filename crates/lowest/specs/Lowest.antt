-- What is done to eight bytes at once, as one number of which the first is lowest.
use Rattle.std.specs.Prelude.{◌%◌, ◌-◌, ◌<◌, ℕ, List, ◌++◌, map, ◌≡◌, length, replicate, take}
use Rattle.eights.specs.Lowest.{of_lowest}
use Rattle.number.specs.Number.{of_digits}
use Rattle.table.specs.All.{AreBytes}

-- r has the first n of the eight bytes of x, behind zeros
pub record FrontIs (x n r : ℕ) : Type 0 where
  pub front : (p : List ℕ) → length p ≡ 8 → AreBytes p → x ≡ of_lowest p → r ≡ of_lowest (replicate (8 - n) 0 ++ take n p)

-- what a digit's letter stands for: its low half; and 0 for a byte of zero
unfoldable pub low_half : ℕ → ℕ
low_half c = c % 16

-- r is the number that the low halves of the eight bytes of x spell
pub record DecimalIs (x r : ℕ) : Type 0 where
  pub decimal : (p : List ℕ) → length p ≡ 8 → AreBytes p → x ≡ of_lowest p → r ≡ of_digits 10 0 (map low_half p)
  pub below : r < 4294967296
