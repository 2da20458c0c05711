-- The user's three demands, stated of any converter, from the text of the declarations.
use Rattle.std.specs.Prelude.{◌+◌, ◌<◌, ◌≤◌, ℕ, Bool, false, true, List, ◌++◌, ◌↔◌, ◌≡◌, ltb, drop, get_or, length, take, Some}
use Rattle.demands.specs.Places.{shows_at}
use Rattle.demands.specs.Tables.{Ends, count, lines, only, row_at, stop_at, up_to}
use Rattle.fields.specs.Fields.{declare}
use Rattle.rows.specs.Stream.{Table, read, write_row}
use Rattle.table.specs.All.{AreBytes}
use Rattle.table.specs.Cell.{Cell}
use Rattle.table.specs.Outcome.{Call, Refusal, accepted, at, ending, most_input, most_number}
use Rattle.table.specs.Result.{Result, bad, good}
use Rattle.table.specs.declared.Column.{Column}
use Rattle.table.specs.declared.Rows.{Rows}
use Rattle.table.specs.declared.Rows.TheVariants.{Binary2, TableData}

-- a converter: from the text of the declarations, the two kinds of rows, the input and the buffer at entry to the answer and the buffer at
-- exit
abbrev pub Converter : Type 0
Converter = List ℕ → Rows → Rows → List ℕ → List ℕ → Call

-- what a call wrote
unfoldable pub output : Call → List ℕ
output c = take c.answer.bytes c.buffer

abbrev pub Accepted : Call → Type 0
Accepted c = c.answer.number ≡ 0

-- ---- demand 1: "Whatever bytes come in, .. the software ends with rows or with one numbered refusal and the row and column where it
-- stopped. Callers check nothing first. Rows before the bad one stand whole in the output; every byte after them is untouched."

-- why a call ends behind so many rows of the table that was read, whose lines have so many bytes, and the number, the row and the column that
-- it then answers: each case is a fact of the input and the room
pub data Why (to : Rows) (cs : List Column) (room : ℕ) (t : Table) (rows size : ℕ) : ℕ → ℕ → ℕ → Type 0 where
  -- "Acceptance has number, row and column 0 and rows done equal to the rows in the input"
  all-rows : Ends t → rows ≡ count t → Why to cs room t rows size 0 0 0
  -- "the row and column where it stopped": what stands there does not read as a row
  in-reading : {e : Refusal} → stop_at rows t ≡ Some e → Why to cs room t rows size e.number rows e.column
  -- the row that stands there has no form in the target
  in-writing : {e : Refusal} {xs : List Cell} → row_at rows t ≡ Some xs → write_row to cs xs ≡ bad e → Why to cs room t rows size e.number rows e.column
  -- 17: "the row is longer than the room left", at column 0
  no-space : {xs : List Cell} {b : List ℕ} → row_at rows t ≡ Some xs → write_row to cs xs ≡ good b → room < size + length b
      → Why to cs room t rows size 17 rows 0

-- under good declarations, of an input within its size
pub record RowsStand (cs : List Column) (from to : Rows) (input out : List ℕ) (c : Call) : Type 0 where
  -- the rows done are rows read from the input
  pub rows-read : c.answer.rows ≤ count (read from cs input)
  -- the output is their lines, in order, whole, and no more
  pub lines-whole : lines to cs (up_to c.answer.rows (read from cs input)) ≡ good (output c)
  -- the bytes that it answers are the output's
  pub bytes-are : c.answer.bytes ≡ length (output c)
  -- it is within the room
  pub within-room : c.answer.bytes ≤ length out
  -- the buffer past it is as it was
  pub untouched : c.buffer ≡ output c ++ drop c.answer.bytes out
  -- all rows are done, or the next one cannot be, and the answer says why and where
  pub why : Why to cs (length out) (read from cs input) c.answer.rows c.answer.bytes c.answer.number c.answer.row c.answer.column
  -- the column is at most the column count
  pub column-within : c.answer.column ≤ length cs

-- refused before any row: the number "at row 0 with its place as the column, and no row is read"
pub record NoRows (e : Refusal) (out : List ℕ) (c : Call) : Type 0 where
  pub refused-at-once : c.answer ≡ record { number = e.number; row = 0; column = e.column; rows = 0; bytes = 0 }
  pub untouched : c.buffer ≡ out

-- "For each input size comes first: 6 stands at row 0, column 0"
abbrev pub Sized : Bool → List Column → Rows → Rows → List ℕ → List ℕ → Call → Type 0
Sized true cs from to input out c = NoRows (at 0 6) out c
Sized false cs from to input out c = RowsStand cs from to input out c

-- the declarations' refusal comes first, then the input's size
abbrev pub Ended : Result Refusal (List Column) → Rows → Rows → List ℕ → List ℕ → Call → Type 0
Ended (good cs) from to input out c = Sized (ltb most_input (length input)) cs from to input out c
Ended (bad e) from to input out c = NoRows e out c

pub record Demand1 (convert : Converter) : Type 0 where
  -- the number is 0 or one of 01's refusals
  pub numbered : (decls : List ℕ) (from to : Rows) (input out : List ℕ) → (convert decls from to input out).answer.number ≤ most_number
  pub ended : (decls : List ℕ) (from to : Rows) (input out : List ℕ) → Ended (declare decls) from to input out (convert decls from to input out)

-- ---- demand 2: "It accepts exactly what VOTable 1.4, as narrowed in document 01, calls valid, 01's writing refusals apart, and each row it
-- writes means what the row it read means, cell by cell, nulls included. With room enough and 01's sizes kept, any valid TABLEDATA goes to
-- BINARY2 and back with every value and null the same."

-- the input is read to its end, each row has a form in the target, and there is room
pub record Valid (decls : List ℕ) (from to : Rows) (input : List ℕ) (room : ℕ) : Type 0 where
  pub columns : List Column
  pub declared : declare decls ≡ good columns
  pub sized : length input ≤ most_input
  pub ends : Ends (read from columns input)
  pub body : List ℕ
  pub forms : lines to columns (read from columns input) ≡ good body
  pub fits : length body ≤ room

-- TABLEDATA to BINARY2 and back
pub record ThereAndBack (convert : Converter) (decls : List ℕ) (cs : List Column) (input : List ℕ) : Type 0 where
  pub binary : List ℕ
  pub text : List ℕ
  pub there : (out : List ℕ) → length binary ≤ length out
      → convert decls TableData Binary2 input out ≡ ending (accepted (count (read TableData cs input)) binary) out
  pub same : read Binary2 cs binary ≡ read TableData cs input
  pub back : length binary ≤ most_input → (out : List ℕ) → length text ≤ length out
      → convert decls Binary2 TableData binary out ≡ ending (accepted (count (read TableData cs input)) text) out
  pub same-again : read TableData cs text ≡ read TableData cs input

pub record Demand2 (convert : Converter) : Type 0 where
  -- acceptance is validity
  pub exactly : (decls : List ℕ) (from to : Rows) (input out : List ℕ) → Accepted (convert decls from to input out) ↔ Valid decls from to input (length out)
  -- what is written reads back, under the same declarations and the target's kind, as the cells that were read, accepted or refused later
  pub means : (decls : List ℕ) (from to : Rows) (input out : List ℕ) (cs : List Column) → declare decls ≡ good cs → AreBytes input
      → read to cs (output (convert decls from to input out)) ≡ up_to (convert decls from to input out).answer.rows (read from cs input)
  -- what is valid is done whole: all its rows, and their lines
  pub does-all : (decls : List ℕ) (from to : Rows) (input out : List ℕ) (cs : List Column) (body : List ℕ) → declare decls ≡ good cs → length input ≤ most_input
      → Ends (read from cs input) → lines to cs (read from cs input) ≡ good body → length body ≤ length out
      → convert decls from to input out ≡ ending (accepted (count (read from cs input)) body) out
  pub there_and_back : (decls : List ℕ) (cs : List Column) (input : List ℕ) → declare decls ≡ good cs → length input ≤ most_input
      → Ends (read TableData cs input) → ThereAndBack convert decls cs input

-- ---- demand 3: "A row's output depends on the declarations, the target and what that row shows, and, room and earlier refusals apart, on
-- nothing else."

-- a stream under declarations, and one of its rows
pub record Stream : Type 0 where
  pub from : Rows
  pub input : List ℕ
  pub out : List ℕ
  pub row : ℕ

-- its row shows xs, and "nothing earlier is refused and there is room enough": said of the table that is read and of the room
pub record Comes (to : Rows) (cs : List Column) (xs : List Cell) (s : Stream) : Type 0 where
  pub sized : length s.input ≤ most_input
  pub shows : row_at s.row (read s.from cs s.input) ≡ Some xs
  -- each row before it has a form in the target, and these are their lines
  pub before : List ℕ
  pub not_earlier : lines to cs (up_to s.row (read s.from cs s.input)) ≡ good before
  pub room-before : length before ≤ length s.out
  -- and its own bytes, if it has any, fit behind them
  pub room-enough : (b : List ℕ) → write_row to cs xs ≡ good b → length (before ++ b) ≤ length s.out

-- its bytes stand in the output, right behind those of the rows before it; by themselves they read as that row
pub record Stands (to : Rows) (cs : List Column) (xs : List Cell) (s : Stream) (before b : List ℕ) (c : Call) : Type 0 where
  pub behind : List ℕ
  pub there : output c ≡ before ++ (b ++ behind)
  pub earlier : read to cs before ≡ up_to s.row (read s.from cs s.input)
  pub itself : read to cs b ≡ only xs

-- the row is refused, and the rows before it stand
pub record RefusedAt (s : Stream) (before : List ℕ) (number column : ℕ) (c : Call) : Type 0 where
  pub numbered : c.answer.number ≡ number
  pub some_number : 0 < number
  pub at_row : c.answer.row ≡ s.row
  pub at-column : c.answer.column ≡ column
  pub there : output c ≡ before

-- "the same bytes or the same refusal number and column, whatever stands around them": those that the target has for what the row shows
pub data SameFate (to : Rows) (cs : List Column) (xs : List Cell) (s t : Stream) (before-s before-t : List ℕ) (c d : Call) : Type 0 where
  both-written : {b : List ℕ} → write_row to cs xs ≡ good b → Stands to cs xs s before-s b c → Stands to cs xs t before-t b d
      → SameFate to cs xs s t before-s before-t c d
  both-refused : {e : Refusal} → write_row to cs xs ≡ bad e → RefusedAt s before-s e.number e.column c → RefusedAt t before-t e.number e.column d
      → SameFate to cs xs s t before-s before-t c d

abbrev pub called : Converter → List ℕ → Rows → Stream → Call
called convert decls to s = convert decls s.from to s.input s.out

-- "accepted again, .. and written as the same bytes": all five numbers of the answer, and what was written
pub record SameOutput (c d : Call) : Type 0 where
  pub same_answer : d.answer ≡ c.answer
  pub same_bytes : output d ≡ output c

pub record Demand3 (convert : Converter) : Type 0 where
  -- "Two rows that show the same under the same declarations, in any two streams, get for the same target, .. the same bytes or the same
  -- refusal number and column"
  pub same_rows : (decls : List ℕ) (to : Rows) (cs : List Column) (xs : List Cell) (s t : Stream) → declare decls ≡ good cs
      → AreBytes s.input → AreBytes t.input → (k : Comes to cs xs s) (l : Comes to cs xs t)
      → SameFate to cs xs s t k.before l.before (called convert decls to s) (called convert decls to t)
  -- "if an accepted BINARY2 stream has changed only in bytes that show nothing (under a null flag, counts excepted, or after the first NUL
  -- of a text), it is accepted again, for the same target and room, and written as the same bytes": whatever the two buffers of that room
  -- held, and a refused stream is refused the same
  pub unseen-bytes : (decls : List ℕ) (to : Rows) (cs : List Column) (s t p q : List ℕ) → declare decls ≡ good cs → length t ≡ length s → length q ≡ length p
      → ((i : ℕ) → i < length s → shows_at cs s i ≡ true → get_or t i 0 ≡ get_or s i 0)
      → SameOutput (convert decls Binary2 to s p) (convert decls Binary2 to t q)
