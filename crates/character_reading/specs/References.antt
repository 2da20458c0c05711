-- What the contracts of the functions on references say.
use Rattle.std.specs.Prelude.{None, Option, Some, ℕ, Bool, false, true}
use Rattle.number.specs.Number.{Fault, digit, hexadigit}
use Rattle.table.specs.Result.{Result, bad, good}

abbrev pub reference_as : Option ℕ → Result ℕ ℕ
reference_as (Some c) = good c
reference_as None = bad 10

abbrev pub value_in : Bool → ℕ → Result Fault ℕ
value_in true = hexadigit
value_in false = digit

abbrev pub base_in : Bool → ℕ
base_in true = 16
base_in false = 10
