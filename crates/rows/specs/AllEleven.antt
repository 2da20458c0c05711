-- A table of TABLEDATA read with one number for all that is no value, as 01 had it, and the refusal there of each of now.
use Rattle.std.specs.Prelude.{◌+◌, ℕ, cond, List, [], ◌∷◌, eqb, length}
use Rattle.rows.specs.Sequence.{finished, row, sequence, stopped}
use Rattle.rows.specs.Stream.{Table, at_end, read_end, read_start}
use Rattle.table.specs.Cell.{Cell}
use Rattle.table.specs.Outcome.{Refusal, at}
use Rattle.table.specs.Result.{Result, ◌>>=◌, good, refused_as}
use Rattle.table.specs.Shape.{shape}
use Rattle.table.specs.declared.Column.{Column}
use Rattle.table.specs.declared.Rows.TheVariants.{TableData}
use Rattle.tabledata.specs.AllEleven.{read_all_eleven, unsplit}

-- "Reading goes by cells from left to right": those from column k on
unfoldable pub cells_all_eleven : List Column → ℕ → List ℕ → Result Refusal (List Cell × List ℕ)
cells_all_eleven [] k s = good ([], s)
cells_all_eleven (c ∷ cs) k s = do
  (x, t) ← refused_as (at k) (read_all_eleven c s)
  (xs, rest) ← cells_all_eleven cs (k + 1) t
  good (x ∷ xs, rest)

unfoldable pub row_all_eleven : List Column → List ℕ → Result Refusal (List Cell × List ℕ)
row_all_eleven cs s = do
  (flags, t) ← refused_as (at 0) (read_start TableData (length cs) s)
  (xs, u) ← cells_all_eleven cs 0 t
  rest ← refused_as (at (length cs)) (read_end TableData u)
  good (xs, rest)

unfoldable pub table_all_eleven : List Column → List ℕ → Table
table_all_eleven cs s = sequence (at_end TableData) (row_all_eleven cs) s

-- the refusal of before, by the kind of its column; the columns are those from k on
unfoldable pub unsplit_from : ℕ → List Column → Refusal → Refusal
unsplit_from k [] e = e
unsplit_from k (c ∷ cs) e = cond (eqb e.column k) (at k (unsplit (shape c.kind) e.number)) (unsplit_from (k + 1) cs e)

-- a table with another refusal where it stops
unfoldable pub stopped_as : (Refusal → Refusal) → Table → Table
stopped_as u finished = finished
stopped_as u (stopped e) = stopped (u e)
stopped_as u (row xs more) = row xs (stopped_as u more)
