-- What the demands say of a table that was read: its end, its rows, their lines.
use Rattle.std.specs.Prelude.{◌+◌, ◌-◌, suc, zero, ℕ, List, [], ◌++◌, ◌∷◌, length, Option, None, Some}
use Rattle.rows.specs.Sequence.{finished, in_order, row, sequence, stopped}
use Rattle.rows.specs.Stream.{Table, at_end, read_row, write_row}
use Rattle.table.specs.Cell.{Cell}
use Rattle.table.specs.Outcome.{Refusal}
use Rattle.table.specs.Result.{Result, ◌>>=◌, good}
use Rattle.table.specs.declared.Column.{Column}
use Rattle.table.specs.declared.Rows.{Rows}

-- the input was read to its end
abbrev pub Ends : Table → Type 0
Ends finished = Unit {0}
Ends (stopped e) = ⊥
Ends (row xs t) = Ends t

-- how many rows were read
unfoldable pub count : Table → ℕ
count finished = 0
count (stopped e) = 0
count (row xs t) = suc (count t)

-- the first m rows
unfoldable pub up_to : ℕ → Table → Table
up_to zero t = finished
up_to (suc m) finished = finished
up_to (suc m) (stopped e) = finished
up_to (suc m) (row xs t) = row xs (up_to m t)

-- the cells of row j, counted from 0
unfoldable pub row_at : ℕ → Table → Option (List Cell)
row_at j finished = None
row_at j (stopped e) = None
row_at zero (row xs t) = Some xs
row_at (suc j) (row xs t) = row_at j t

-- the refusal in reading that stands where row j should stand
unfoldable pub stop_at : ℕ → Table → Option Refusal
stop_at j finished = None
stop_at zero (stopped e) = Some e
stop_at (suc j) (stopped e) = None
stop_at zero (row xs t) = None
stop_at (suc j) (row xs t) = stop_at j t

-- a table of one row
abbrev pub only : List Cell → Table
only xs = row xs finished

-- the rows as the target writes them, in order, whole; or the first refusal in writing
unfoldable pub lines : Rows → List Column → Table → Result Refusal (List ℕ)
lines to cs finished = good []
lines to cs (stopped e) = good []
lines to cs (row xs t) = write_row to cs xs >>= λ b. lines to cs t >>= λ r. good (b ++ r)

-- the length of a row: what it took of the stream
unfoldable pub row_length : Rows → List Column → List ℕ → Result Refusal (ℕ × List ℕ)
row_length from cs s = read_row from cs s >>= λ p. good (length s - length p.1, p.1)

unfoldable pub row_lengths : Rows → List Column → List ℕ → List ℕ
row_lengths from cs s = in_order (sequence (at_end from) (row_length from cs) s)

unfoldable pub sum : List ℕ → ℕ
sum [] = 0
sum (n ∷ ns) = n + sum ns
