-- Parts of a cell's reading, as the code takes them: whole numbers one after the other, and a cell after its count.
use Rattle.std.specs.Prelude.{suc, zero, ℕ, Bool, List, [], ◌∷◌, ℤ, drop, take}
use Rattle.binary.specs.Binary.{content_bytes, first_bytes, shows}
use Rattle.number.specs.Number.{of_digits, of_pattern}
use Rattle.table.specs.Cell.{Cell}
use Rattle.table.specs.Result.{Result, ◌>>=◌, good}
use Rattle.table.specs.Shape.{shape}
use Rattle.table.specs.declared.Column.{Column}

-- n integers of w bytes
unfoldable pub integers : Bool → ℕ → ℕ → List ℕ → List ℤ
integers g w zero s = []
integers g w (suc n) s = of_pattern g w (of_digits 256 0 (take w s)) ∷ integers g w n (drop w s)

-- a cell of n elements, after its count
unfoldable pub read_counted : Column → Bool → ℕ → List ℕ → Result ℕ (Cell × List ℕ)
read_counted c flagged n t = do
  (p, rest) ← first_bytes (content_bytes (shape c.kind) n) t
  x ← shows c flagged n p
  good (x, rest)
