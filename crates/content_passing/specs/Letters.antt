-- The letter that an element of a boolean is written as; 0 stands for none.
use Rattle.std.specs.Prelude.{ℕ, ℤ}
use Rattle.table.specs.Cell.{truth_byte}
use Rattle.table.specs.Result.{Result, bad, good}

unfoldable pub letter_of : Result ℕ ℤ → ℕ
letter_of (good z) = truth_byte z
letter_of (bad e) = 0
