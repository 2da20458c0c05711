-- How many bytes a cell takes, as the code counts them.
use Rattle.std.specs.Prelude.{◌+◌, ℕ, length}
use Rattle.binary.specs.Binary.{content_bytes, count_bytes}
use Rattle.binary.specs.Clauses.{filled_bytes}
use Rattle.table.specs.Cell.{room_in}
use Rattle.table.specs.Shape.{shape}
use Rattle.table.specs.declared.Column.{Column}

-- the bytes of a cell of m elements
unfoldable pub elements_size : Column → ℕ → ℕ
elements_size c m = length (count_bytes c.len m) + filled_bytes (shape c.kind) (room_in c.len m) m

-- the bytes of a cell with room for m elements; a null's are all 0
unfoldable pub room_size : Column → ℕ → ℕ
room_size c m = length (count_bytes c.len m) + content_bytes (shape c.kind) (room_in c.len m)
