-- Rows that are done: read from the input and written whole, with what is still to come.
use Rattle.std.specs.Prelude.{◌+◌, ◌<◌, ◌≤◌, suc, zero, ℕ, List, [], ◌++◌, ◌⊎◌, ◌≡◌, drop, length, take}
use Rattle.rows.specs.Pieces.{behind_rows}
use Rattle.rows.specs.Stream.{read, read_row, run, write, write_row}
use Rattle.table.specs.Cell.{Cell}
use Rattle.table.specs.Outcome.{Refusal}
use Rattle.table.specs.Result.{Result, ◌>>=◌, good}
use Rattle.table.specs.Wrote.{Wrote}
use Rattle.table.specs.declared.Column.{Column}
use Rattle.table.specs.declared.Rows.{Rows}

-- the rows before are done: the whole answer is that of going on from here
pub record RowsDone (from to : Rows) (cols : List Column) (s out₀ out : List ℕ) (place rows bytes : ℕ) : Type 0 where
  pub inside : place ≤ length s
  pub fewer : rows ≤ place
  pub room : bytes ≤ length out
  pub long : length out ≡ length out₀
  pub kept : drop bytes out ≡ drop bytes out₀
  pub done : behind_rows from cols rows s ≡ drop place s
  pub ahead : run from to cols (length out₀) s ≡ write to cols (length out₀) rows (take bytes out) (read from cols (drop place s))

-- some rows more are done, or none
pub record RowsFurther (from to : Rows) (cols : List Column) (s old : List ℕ) (place rows bytes : ℕ) (new : List ℕ) (place' rows' bytes' : ℕ) : Type 0 where
  pub inside : place' ≤ length s
  pub fewer : rows' ≤ place'
  pub room : bytes' ≤ length new
  pub long : length new ≡ length old
  pub onward : place ≤ place'
  pub further : (out₀ : List ℕ) → RowsDone from to cols s out₀ old place rows bytes → RowsDone from to cols s out₀ new place' rows' bytes'

-- ---- rows moved, whatever was done before them

-- the first so many rows of a stream, read and written one after the other: their bytes, and what is left behind them
unfoldable pub rows_written : Rows → Rows → List Column → ℕ → List ℕ → Result Refusal (List ℕ × List ℕ)
rows_written from to cols zero s = good ([], s)
rows_written from to cols (suc n) s = do
  (before, t) ← rows_written from to cols n s
  (xs, rest) ← read_row from cols t
  b ← write_row to cols xs
  good (before ++ b, rest)

-- so many rows more are written behind the bytes that stood there, and nothing else of the output has changed
pub record RowsMoved (from to : Rows) (cols : List Column) (s old : List ℕ) (place rows bytes : ℕ) (new : List ℕ) (place' rows' bytes' : ℕ) : Type 0 where
  pub inside : place' ≤ length s
  pub room : bytes' ≤ length new
  pub count : ℕ
  pub added : List ℕ
  pub counted : rows' ≡ rows + count
  pub written : rows_written from to cols count (drop place s) ≡ good (added, drop place' s)
  pub wrote : Wrote old bytes added new bytes'

-- what stands before a row's cells, and what stands behind them, takes at most these
abbrev pub most_frame_bytes : ℕ
most_frame_bytes = 8

-- a row is left only where it is refused, has no form, or has no room: in the output behind the bytes written, or in the buffer that it is made in
abbrev pub RowLeft : Rows → Rows → List Column → List ℕ → ℕ → List ℕ → ℕ → ℕ → Type 0
RowLeft from to cols s place out bytes roomy =
    (xs : List Cell) (rest b : List ℕ) → read_row from cols (drop place s) ≡ good (xs, rest) → write_row to cols xs ≡ good b
    → (length out < bytes + length b) ⊎ (roomy < length b + most_frame_bytes)

-- rows are moved as long as one can be, in a buffer of so many bytes
pub record MovesRows (from to : Rows) (cols : List Column) (s old : List ℕ) (place rows bytes roomy : ℕ) (new : List ℕ) (place' rows' bytes' : ℕ) : Type 0 where
  pub moved : RowsMoved from to cols s old place rows bytes new place' rows' bytes'
  pub stops : RowLeft from to cols s place' new bytes' roomy
