-- What the functions on base64's letters promise: the value of a letter, the table of them, and the letters of three bytes.
use Rattle.std.specs.Prelude.{◌%◌, ◌*◌, ◌+◌, ◌/◌, ◌<◌, ℕ, List, [], ◌∷◌, ◌≡◌, get_or}
use Rattle.base64_rules.specs.Base64.{letter, sextet}
use Rattle.table.specs.Result.{Result, bad, good}

-- in place of a value where there is no letter: over every number that four letters make
abbrev pub none : ℕ
none = 16777216

abbrev pub value_or_none : Result ℕ ℕ → ℕ
value_or_none (good v) = v
value_or_none (bad e) = none

-- a letter's value, and none for any other byte
unfoldable pub letter_value : ℕ → ℕ
letter_value c = value_or_none (sextet c)

-- "Look each character up in a table of 128 entries": these numbers are that table
abbrev pub TableIs : List ℕ → Type 0
TableIs values = (c : ℕ) → c < 128 → get_or values c 0 ≡ letter_value c

-- the letters of three bytes
unfoldable pub letters_of : ℕ → ℕ → ℕ → List ℕ
letters_of a b c = letter (a / 4) ∷ letter (a % 4 * 16 + b / 16) ∷ letter (b % 16 * 4 + c / 64) ∷ letter (c % 64) ∷ []
