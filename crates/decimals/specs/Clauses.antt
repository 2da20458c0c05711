-- What the contracts speak of beside the definitions: so many decimal digits of a number.
use Rattle.std.specs.Prelude.{◌+◌, ℕ, List, map}
use Rattle.number.specs.Number.{to_digits}

-- the n low decimal digits of x as characters, the highest first
unfoldable pub numerals : ℕ → ℕ → List ℕ
numerals n x = map (λ (d : ℕ). d + 48) (to_digits 10 n x)
