-- An index of a stream. 02, #101: "an index in a lent buffer of 32-bit numbers: place k holds the start of row 64k".
use Rattle.std.specs.Prelude.{◌%◌, ◌+◌, ◌-◌, ℕ, cond, List, [], ◌∷◌, ◌≡◌, eqb, length}
use Rattle.rows.specs.Convert.{under_columns}
use Rattle.rows.specs.Sequence.{Sequence, finished, row, sequence, stopped}
use Rattle.rows.specs.Stream.{at_end, fitted, read_row, wrote_then}
use Rattle.fields.specs.Front.{front}
use Rattle.table.specs.Outcome.{Call, Outcome, Refusal, accepted, ending, refused}
use Rattle.table.specs.Result.{Result, ◌>>=◌, good}
use Rattle.table.specs.declared.Answer.{Answer}
use Rattle.table.specs.declared.Column.{Column}
use Rattle.table.specs.declared.Rows.{Rows}

-- one row in so many has an entry
abbrev pub spacing : ℕ
spacing = 64

-- ---- the starts of rows

-- a row at the front of what is left of a stream of so many bytes: the place where it starts
unfoldable pub row_start : ℕ → Rows → List Column → List ℕ → Result Refusal (ℕ × List ℕ)
row_start size from cs s = read_row from cs s >>= λ p. good (size - length s, p.1)

unfoldable pub starts_of : ℕ → Rows → List Column → List ℕ → Sequence ℕ
starts_of size from cs s = sequence (at_end from) (row_start size from cs) s

-- ---- what an index holds

-- "place k holds the start of row 64k": the entry of row r, if it has one
unfoldable pub entry_of : ℕ → ℕ → List ℕ
entry_of r start = cond (eqb (r % spacing) 0) (start ∷ []) []

-- the entries of row r and of those after it, behind those that stand, in a buffer of so many places: "17, at column 0, for a row that reads well but
-- whose start has no place left"; "A stream that is refused in reading gets the same refusal while indexing."
unfoldable pub enter : ℕ → ℕ → List ℕ → Sequence ℕ → Outcome
enter room r entries finished = accepted r entries
enter room r entries (stopped e) = refused e r entries
enter room r entries (row start more) = wrote_then r entries (fitted room entries (good (entry_of r start))) (λ es. enter room (r + 1) es more)

unfoldable pub indexing : List ℕ → Rows → List ℕ → ℕ → Outcome
indexing decls from input room = under_columns (front decls (length input)) (λ cs. enter room 0 [] (starts_of (length input) from cs input))

-- ---- the call

-- "The answer gives the row count": number, row, column and rows as of a conversion, and no bytes
unfoldable pub without_bytes : Answer → Answer
without_bytes a = record { number = a.number; row = a.row; column = a.column; rows = a.rows; bytes = 0 }

-- the answer and the buffer at exit, from the text of the declarations, the kind of rows, the input and the buffer at entry. "Entries for whole rows
-- before the refusal are filled and the rest untouched."
unfoldable pub index : List ℕ → Rows → List ℕ → List ℕ → Call
index decls from input entry =
    let c = ending (indexing decls from input (length entry)) entry in
    record { answer = without_bytes c.answer; buffer = c.buffer }

-- what every call of `index` promises: the whole answer, and every number of the buffer that it was lent
pub record Indexes (decls : List ℕ) (from : Rows) (input entry : List ℕ) (a : Answer) (exit : List ℕ) : Type 0 where
  pub answers : a ≡ (index decls from input entry).answer
  pub leaves : exit ≡ (index decls from input entry).buffer
