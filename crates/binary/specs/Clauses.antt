-- What the contracts of the code speak of beside the definitions.
use Rattle.std.specs.Prelude.{ℕ, cond}
use Rattle.binary.specs.Binary.{content_bytes}
use Rattle.table.specs.Cell.{is_char}
use Rattle.table.specs.Shape.{Shape}

-- ---- the bytes of a content

-- the bytes of m elements where n have room: "fixed char filled up with NUL"
unfoldable pub filled_bytes : Shape → ℕ → ℕ → ℕ
filled_bytes k n m = content_bytes k (cond (is_char k) n m)
