-- Bytes as one number, the first of them lowest.
use Rattle.std.specs.Prelude.{◌*◌, ◌+◌, ℕ, Bool, List, [], ◌∷◌, map, ◌≡◌, length}
use Rattle.eights.specs.Marks.{mark, run}
use Rattle.number.specs.Number.{of_digits}
use Rattle.table.specs.All.{AreBytes}

unfoldable pub of_lowest : List ℕ → ℕ
of_lowest [] = 0
of_lowest (b ∷ s) = b + 256 * of_lowest s

-- r has the eight bytes of x, turned round
pub record TurnedRound (x r : ℕ) : Type 0 where
  pub turned_round : (ds : List ℕ) → length ds ≡ 8 → AreBytes ds → x ≡ of_digits 256 0 ds → r ≡ of_lowest ds

-- r counts the bytes before the first mark
pub record FirstLowest (m r : ℕ) : Type 0 where
  pub first : (test : ℕ → Bool) (ds : List ℕ) → length ds ≡ 8 → m ≡ of_lowest (map (mark test) ds) → r ≡ run test ds
