-- What the contracts of the functions that measure a cell of TABLEDATA say.
use Rattle.std.specs.Prelude.{◌+◌, ◌≤◌, ℕ, List, length, Option, None, Some}
use Rattle.table.specs.Result.{Result, ◌>>=◌, bad, good}

-- the length of a text and so many bytes more, or why there is none
unfoldable pub size_with : ℕ → Result ℕ (List ℕ) → Result ℕ ℕ
size_with n r = r >>= λ t. good (n + length t)

-- the bytes that a char takes, or 16 where it has no form
unfoldable pub form_size : Option ℕ → Result ℕ ℕ
form_size (Some n) = good n
form_size None = bad 16

-- and they are few
abbrev pub FewBytes : Option ℕ → Type 0
FewBytes (Some n) = n ≤ 5
FewBytes None = Unit {0}
