-- The numbers of the face: which kind of rows a number names, and in which order an answer's numbers stand.
use Rattle.std.specs.Prelude.{suc, zero, ℕ, List, [], ◌++◌, ◌∷◌, get_or, Option, None, Some}
use Rattle.compare.specs.declared.Comparison.{Comparison}
use Rattle.parts.specs.declared.Joined.{Joined}
use Rattle.table.specs.declared.Answer.{Answer}
use Rattle.table.specs.declared.Rows.{Rows}
use Rattle.table.specs.declared.Rows.TheVariants.{Binary, Binary2, TableData}

-- row kinds by number: 0 TABLEDATA, 1 BINARY, 2 BINARY2
unfoldable pub rows_of : ℕ → Option Rows
rows_of zero = Some TableData
rows_of (suc zero) = Some Binary
rows_of (suc (suc zero)) = Some Binary2
rows_of (suc (suc (suc n))) = None

-- those of which an index is kept: "beside a BINARY or BINARY2 stream"
unfoldable pub binary_of : ℕ → Option Rows
binary_of zero = None
binary_of (suc zero) = Some Binary
binary_of (suc (suc zero)) = Some Binary2
binary_of (suc (suc (suc n))) = None

-- "The answer has the number, the row and column from 0, the rows done and the bytes written."
unfoldable pub five : Answer → List ℕ
five a = a.number ∷ a.row ∷ a.column ∷ a.rows ∷ a.bytes ∷ []

-- of a piece: the five numbers, and sixth the place where the rows done end
unfoldable pub six : Answer → ℕ → List ℕ
six a place = five a ++ (place ∷ [])

-- of two inputs compared: number, row, column, input, cells that differ, rows that the first has beyond, rows that the second has beyond, places filled
unfoldable pub eight : Comparison → List ℕ
eight c = c.number ∷ c.row ∷ c.column ∷ c.input ∷ c.differing ∷ c.first ∷ c.second ∷ c.places ∷ []

-- of parts joined: number, row, column, rows, bytes, place, parts used, and whether it has ended
unfoldable pub joined_of : List ℕ → Joined
joined_of s = record {
  number = get_or s 0 0;
  row = get_or s 1 0;
  column = get_or s 2 0;
  rows = get_or s 3 0;
  bytes = get_or s 4 0;
  place = get_or s 5 0;
  parts = get_or s 6 0;
  ended = get_or s 7 0;
}

unfoldable pub joined_numbers : Joined → List ℕ
joined_numbers j = j.number ∷ j.row ∷ j.column ∷ j.rows ∷ j.bytes ∷ j.place ∷ j.parts ∷ j.ended ∷ []
