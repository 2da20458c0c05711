-- What the contracts of reading and of writing both speak of beside the definitions.
use Rattle.std.specs.Prelude.{ℕ, Bool, ◌&&◌, not, eqb}
use Rattle.table.specs.Bytes.{between}

-- a character that stands for itself
unfoldable pub is_plain : ℕ → Bool
is_plain c = not (eqb c 38) && not (eqb c 60) && between 32 127 c
