-- Rows, and a stream of them: what a kind of rows reads, what it writes, and how a stream goes from one kind to another.
use Rattle.std.specs.Prelude.{◌+◌, suc, zero, ℕ, Bool, cond, false, true, List, [], ◌++◌, ◌∷◌, map, ltb, length}
use Rattle.binary.specs.Binary.{flag_bit, pack, read_binary, read_binary2, read_flags, write_binary, write_binary2}
use Rattle.rows.specs.Sequence.{Sequence, finished, row, sequence, stopped}
use Rattle.table.specs.Bytes.{bytes, skip_white, tag}
use Rattle.table.specs.Cell.{Cell, is_null}
use Rattle.table.specs.Outcome.{Outcome, Refusal, accepted, at, refused}
use Rattle.table.specs.Result.{Result, ◌>>=◌, bad, good, refused_as}
use Rattle.table.specs.declared.Column.{Column}
use Rattle.table.specs.declared.Rows.{Rows}
use Rattle.table.specs.declared.Rows.TheVariants.{Binary, Binary2, TableData}
use Rattle.tabledata.specs.TableData.{close-TR, open-TR, read_text, write_text}

-- ---- reading a row

-- a cell of each kind of rows; only BINARY2 has flags
unfoldable pub read_cell : Rows → Column → Bool → List ℕ → Result ℕ (Cell × List ℕ)
read_cell TableData c flagged s = read_text c s
read_cell Binary c flagged s = read_binary c s
read_cell Binary2 c flagged s = read_binary2 c flagged s

-- the flag of the next column: none where there are no flags
unfoldable pub flag : List Bool → Bool
flag [] = false
flag (f ∷ fs) = f

unfoldable pub flags_left : List Bool → List Bool
flags_left [] = []
flags_left (f ∷ fs) = fs

-- "Reading goes by cells from left to right": those from column k on
unfoldable pub read_cells : Rows → List Column → List Bool → ℕ → List ℕ → Result Refusal (List Cell × List ℕ)
read_cells from [] fs k s = good ([], s)
read_cells from (c ∷ cs) fs k s = do
  (x, t) ← refused_as (at k) (read_cell from c (flag fs) s)
  (xs, rest) ← read_cells from cs (flags_left fs) (k + 1) t
  good (x ∷ xs, rest)

-- "1 for null"
unfoldable pub is_set : ℕ → Bool
is_set zero = false
is_set (suc n) = true

-- what begins a row: `<TR>`, nothing, or the flags
unfoldable pub read_start : Rows → ℕ → List ℕ → Result ℕ (List Bool × List ℕ)
read_start TableData n s = tag 10 open-TR (skip_white s) >>= λ t. good ([], t)
read_start Binary n s = good ([], s)
read_start Binary2 n s = do
  (bits, t) ← read_flags n s
  good (map is_set bits, t)

-- what ends it: `</TR>`, or nothing
unfoldable pub read_end : Rows → List ℕ → Result ℕ (List ℕ)
read_end TableData s = tag 10 close-TR (skip_white s)
read_end Binary s = good s
read_end Binary2 s = good s

-- "A broken row start is column 0, a missing cell its own column, a broken row end the column count."
unfoldable pub read_row : Rows → List Column → List ℕ → Result Refusal (List Cell × List ℕ)
read_row from cs s = do
  (flags, t) ← refused_as (at 0) (read_start from (length cs) s)
  (xs, u) ← read_cells from cs flags 0 t
  rest ← refused_as (at (length cs)) (read_end from u)
  good (xs, rest)

-- ---- what a stream says: its rows, and how it ends

abbrev pub Table : Type 0
Table = Sequence (List Cell)

unfoldable pub is_empty : List ℕ → Bool
is_empty [] = true
is_empty (b ∷ s) = false

-- "zero bytes are zero rows, accepted"; in TABLEDATA white space may stand around rows
unfoldable pub at_end : Rows → List ℕ → Bool
at_end TableData s = is_empty (skip_white s)
at_end Binary s = is_empty s
at_end Binary2 s = is_empty s

unfoldable pub read : Rows → List Column → List ℕ → Table
read from cs s = sequence (at_end from) (read_row from cs) s

-- a stream whose rows are only passed over: how many there are from row r on, or the refusal of the first that does not read
unfoldable pub passed : ℕ → Table → Outcome
passed r finished = accepted r []
passed r (stopped e) = refused e r []
passed r (row xs more) = passed (r + 1) more

-- ---- writing a row

unfoldable pub write_cell : Rows → Column → Cell → Result ℕ (List ℕ)
write_cell TableData c x = write_text c x
write_cell Binary c x = write_binary c x
write_cell Binary2 c x = good (write_binary2 c x)

-- "Writing: 14, 15, 16 at the first cell that has one"
unfoldable pub write_cells : Rows → List Column → List Cell → ℕ → Result Refusal (List ℕ)
write_cells to [] xs k = good []
write_cells to (c ∷ cs) [] k = good []
write_cells to (c ∷ cs) (x ∷ xs) k = do
  b ← refused_as (at k) (write_cell to c x)
  r ← write_cells to cs xs (k + 1)
  good (b ++ r)

unfoldable pub write_start : Rows → List Cell → List ℕ
write_start TableData xs = open-TR ++ bytes ">"
write_start Binary xs = []
write_start Binary2 xs = pack (map flag_bit (map is_null xs))

-- "one line per row, byte 10 at its end, nothing else between tags"
unfoldable pub write_end : Rows → List ℕ
write_end TableData = close-TR ++ bytes ">\n"
write_end Binary = []
write_end Binary2 = []

unfoldable pub write_row : Rows → List Column → List Cell → Result Refusal (List ℕ)
write_row to cs xs = write_cells to cs xs 0 >>= λ b. good (write_start to xs ++ (b ++ write_end to))

-- ---- a stream from one kind of rows to another

-- a row's bytes behind those written; "then 17 at column 0": "the row is longer than the room left"
unfoldable pub fitted : ℕ → List ℕ → Result Refusal (List ℕ) → Result Refusal (List ℕ)
fitted room out w = w >>= λ b. cond (ltb room (length (out ++ b))) (bad (at 0 17)) (good (out ++ b))

-- "A refused row writes nothing."
unfoldable pub wrote_then : ℕ → List ℕ → Result Refusal (List ℕ) → (List ℕ → Outcome) → Outcome
wrote_then r out (good b) more = more b
wrote_then r out (bad e) more = refused e r out

-- "a row is read whole, then written": row r and those after it, with `out` written
unfoldable pub write : Rows → List Column → ℕ → ℕ → List ℕ → Table → Outcome
write to cs room r out finished = accepted r out
write to cs room r out (stopped e) = refused e r out
write to cs room r out (row xs more) =
    wrote_then r out (fitted room out (write_row to cs xs)) (λ b. write to cs room (r + 1) b more)

unfoldable pub run : Rows → Rows → List Column → ℕ → List ℕ → Outcome
run from to cs room s = write to cs room 0 [] (read from cs s)
