-- One row from a long night, stated of any function that indexes a stream and any that fetches a row by an index. 02, #101.
use Rattle.std.specs.Prelude.{◌%◌, ◌*◌, ◌+◌, ◌-◌, ◌/◌, ◌<◌, ◌≤◌, suc, zero, ℕ, Bool, false, true, List, ◌≡◌, ltb, drop, get_or, length, take, Some}
use Rattle.demands.specs.Demands.{NoRows, SameOutput}
use Rattle.demands.specs.Tables.{Ends, count, lines, only, row_at, stop_at}
use Rattle.fields.specs.Fields.{declare}
use Rattle.index.specs.Fetch.{asked_for}
use Rattle.rows.specs.Convert.{convert}
use Rattle.rows.specs.Pieces.{behind_rows}
use Rattle.rows.specs.Stream.{Table, read, read_row}
use Rattle.table.specs.Cell.{Cell}
use Rattle.table.specs.Outcome.{Call, Refusal, at, most_input}
use Rattle.table.specs.Result.{Result, bad, good}
use Rattle.table.specs.declared.Column.{Column}
use Rattle.table.specs.declared.Rows.{Rows}
use Rattle.table.specs.declared.Rows.TheVariants.{TableData}

-- ---- the index

-- where row r starts: behind the rows before it
unfoldable pub start_of : Rows → List Column → List ℕ → ℕ → ℕ
start_of from cs input r = length input - length (behind_rows from cs r input)

-- why an index ends behind so many rows of the table that is read, and the number, the row and the column that are then answered
pub data WhyIndexed (room : ℕ) (t : Table) (rows : ℕ) : ℕ → ℕ → ℕ → Type 0 where
  all-indexed : Ends t → rows ≡ count t → WhyIndexed room t rows 0 0 0
  -- "A stream that is refused in reading gets the same refusal while indexing."
  index-stopped : {e : Refusal} → stop_at rows t ≡ Some e → WhyIndexed room t rows e.number rows e.column
  -- "17, at column 0, for a row that reads well but whose start has no place left"
  no_place : {xs : List Cell} → row_at rows t ≡ Some xs → rows ≡ 64 * room → WhyIndexed room t rows 17 rows 0

-- under good declarations, of an input within its size
pub record IndexStands (cs : List Column) (from : Rows) (input entry : List ℕ) (c : Call) : Type 0 where
  -- "The answer gives the row count": rows that are read from the input
  pub rows-read : c.answer.rows ≤ count (read from cs input)
  -- "place k holds the start of row 64k": "Entries for whole rows before the refusal are filled
  pub places : (k : ℕ) → 64 * k < c.answer.rows → (k < length entry) × (get_or c.buffer k 0 ≡ start_of from cs input (64 * k))
  -- and the rest untouched."
  pub untouched : (k : ℕ) → c.answer.rows ≤ 64 * k → get_or c.buffer k 0 ≡ get_or entry k 0
  pub as_long : length c.buffer ≡ length entry
  -- all rows are indexed, or the next one cannot be, and the answer says why and where
  pub why : WhyIndexed (length entry) (read from cs input) c.answer.rows c.answer.number c.answer.row c.answer.column
  pub no_bytes : c.answer.bytes ≡ 0

abbrev pub IndexSized : Bool → List Column → Rows → List ℕ → List ℕ → Call → Type 0
IndexSized true cs from input entry c = NoRows (at 0 6) entry c
IndexSized false cs from input entry c = IndexStands cs from input entry c

-- the declarations' refusal comes first, then the input's size
abbrev pub IndexEnded : Result Refusal (List Column) → Rows → List ℕ → List ℕ → Call → Type 0
IndexEnded (good cs) from input entry c = IndexSized (ltb most_input (length input)) cs from input entry c
IndexEnded (bad e) from input entry c = NoRows e entry c

-- the same number, row and column, and as many rows
pub record SameStop (c d : Call) : Type 0 where
  pub same_number : c.answer.number ≡ d.answer.number
  pub same_row : c.answer.row ≡ d.answer.row
  pub same-column : c.answer.column ≡ d.answer.column
  pub same_rows : c.answer.rows ≡ d.answer.rows

-- "A stream that is refused in reading gets the same refusal while indexing.": as in converting it, whatever the target in which its rows have a form,
-- where the index has its places and the lines have their room
abbrev pub StopsAsConverted : List ℕ → Rows → List ℕ → List ℕ → Call → Type 0
StopsAsConverted decls from input entry c =
    (to : Rows) (out : List ℕ) → ((cs : List Column) → declare decls ≡ good cs → count (read from cs input) ≤ 64 * length entry)
    → ((cs : List Column) → declare decls ≡ good cs → (body : List ℕ) × (lines to cs (read from cs input) ≡ good body) × (length body ≤ length out))
    → SameStop c (convert decls from to input out)

-- ---- one row

-- the row's own bytes: from its start to that of the next
unfoldable pub own_bytes : Rows → List Column → List ℕ → ℕ → List ℕ
own_bytes from cs input r = take (start_of from cs input (r + 1) - start_of from cs input r) (drop (start_of from cs input r) input)

-- a call on a row, "its row being the one asked for"
unfoldable pub as_row : ℕ → Call → Call
as_row row c = record { answer = asked_for row c.answer; buffer = c.buffer }

-- by the index and the count that were answered for that stream and those declarations
pub record FetchStands (decls : List ℕ) (cs : List Column) (from : Rows) (input : List ℕ) (rows row : ℕ) (out : List ℕ) (d : Call) : Type 0 where
  -- "the TABLEDATA line, or the refusal in writing it .., that the row gets in a stream of its own"
  pub alone : row < rows → d ≡ as_row row (convert decls from TableData (own_bytes from cs input row) out)
  -- that stream is this row and no other
  pub itself : row < rows → (xs : List Cell) × (row_at row (read from cs input) ≡ Some xs) × (read from cs (own_bytes from cs input row) ≡ only xs)
  -- "20 at that row, column 0, past the end"
  pub past_end : rows ≤ row → d ≡ record { answer = record { number = 20; row = row; column = 0; rows = 0; bytes = 0 }; buffer = out }

abbrev pub FetchSized : Bool → List ℕ → List Column → Rows → List ℕ → ℕ → ℕ → List ℕ → Call → Type 0
FetchSized true decls cs from input rows row out d = NoRows (at 0 6) out d
FetchSized false decls cs from input rows row out d = FetchStands decls cs from input rows row out d

abbrev pub FetchEnded : Result Refusal (List Column) → List ℕ → Rows → List ℕ → ℕ → ℕ → List ℕ → Call → Type 0
FetchEnded (good cs) decls from input rows row out d = FetchSized (ltb most_input (length input)) decls cs from input rows row out d
FetchEnded (bad e) decls from input rows row out d = NoRows e out d

-- ---- what a fetch looks at, with any index: the input's length and the bytes from the entry's start to the row's end

-- rows at the front of a stream that read, and what is left behind them
pub data RowsRead (from : Rows) (cs : List Column) : ℕ → List ℕ → List ℕ → Type 0 where
  none_read : {s : List ℕ} → RowsRead from cs zero s s
  row_read : {m : ℕ} {s rest left : List ℕ} {xs : List Cell} → read_row from cs s ≡ good (xs, rest) → RowsRead from cs m rest left → RowsRead from cs (suc m) s left

-- the bytes that count: up to the end of the row asked for, where it and those on the way to it read; else all that follow the start
pub data LooksTo (from : Rows) (cs : List Column) (input : List ℕ) (start before : ℕ) : ℕ → Type 0 where
  to-its-end : {left : List ℕ} → RowsRead from cs (suc before) (drop start input) left → LooksTo from cs input start before (length input - length left)
  to_the_end : LooksTo from cs input start before (length input)

-- two inputs that are the same there
pub record SameThere (from : Rows) (cs : List Column) (input other : List ℕ) (start before : ℕ) : Type 0 where
  pub same-long : length other ≡ length input
  pub end : ℕ
  pub looks : LooksTo from cs input start before end
  pub same_bytes : (i : ℕ) → start ≤ i → i < end → get_or other i 0 ≡ get_or input i 0

-- two indexes that have as many places, and hold the same for the row
pub record SameEntry (index other : List ℕ) (row : ℕ) : Type 0 where
  pub same-places : length other ≡ length index
  pub same_start : get_or other (row / 64) 0 ≡ get_or index (row / 64) 0

-- what fetching answers depends on these alone: all five numbers are the same and what is written, whatever the two buffers of one room held
abbrev pub FetchesAlike : List ℕ → Rows → List ℕ → List ℕ → List ℕ → List ℕ → ℕ → List ℕ → List ℕ → Call → Call → Type 0
FetchesAlike decls from input other index others row out room c d =
    length room ≡ length out → SameEntry index others row
    → ((cs : List Column) → declare decls ≡ good cs → SameThere from cs input other (get_or index (row / 64) 0) (row % 64)) → SameOutput c d
