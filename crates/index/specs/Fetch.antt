-- One row fetched by an index, whatever index it is. 02, #101: "Fetching a row with the index that was built from that stream and those declarations
-- must give the TABLEDATA line, or the refusal in writing it (its row being the one asked for), that the row gets in a stream of its own."
use Rattle.std.specs.Prelude.{◌%◌, ◌-◌, ◌/◌, suc, zero, ℕ, Bool, ◌&&◌, cond, List, [], ◌≡◌, eqb, ltb, drop, get_or, length, take}
use Rattle.index.specs.Index.{spacing}
use Rattle.fields.specs.Front.{front}
use Rattle.rows.specs.Stream.{read_row, run}
use Rattle.table.specs.Cell.{Cell}
use Rattle.table.specs.Outcome.{Call, Outcome, Refusal, at, ending, refused}
use Rattle.table.specs.Result.{Result, bad, good}
use Rattle.table.specs.declared.Answer.{Answer}
use Rattle.table.specs.declared.Column.{Column}
use Rattle.table.specs.declared.Rows.{Rows}
use Rattle.table.specs.declared.Rows.TheVariants.{TableData}

-- what is done behind the row at the front; where it does not read, its refusal
unfoldable pub behind_the : Result Refusal (List Cell × List ℕ) → (List ℕ → Outcome) → Outcome
behind_the (good p) more = more p.1
behind_the (bad e) more = refused e 0 []

-- the row behind so many others at the front of s: its own bytes as "a stream of its own"
unfoldable pub fetch_row : Rows → List Column → ℕ → ℕ → List ℕ → Outcome
fetch_row from cs room zero s = behind_the (read_row from cs s) (λ rest. run from TableData cs room (take (length s - length rest) s))
fetch_row from cs room (suc m) s = behind_the (read_row from cs s) (λ rest. fetch_row from cs room m rest)

-- a row below the count, for which the index has a place
unfoldable pub is_indexed : List ℕ → ℕ → ℕ → Bool
is_indexed index rows row = ltb row rows && ltb (row / spacing) (length index)

-- "20 .. past the end"; else the row is found from the start that its place holds. A start past the input's end leaves nothing to read
unfoldable pub fetch_indexed : Rows → List Column → ℕ → List ℕ → List ℕ → ℕ → ℕ → Outcome
fetch_indexed from cs room input index rows row =
    cond (is_indexed index rows row) (fetch_row from cs room (row % spacing) (drop (get_or index (row / spacing) 0) input)) (refused (at 0 20) 0 [])

-- ---- the call

-- "its row being the one asked for": a refusal stands there
unfoldable pub asked_for : ℕ → Answer → Answer
asked_for row a = cond (eqb a.number 0) a (record { number = a.number; row = row; column = a.column; rows = a.rows; bytes = a.bytes })

-- a refusal of the front stands at row 0
unfoldable pub fetch_under : Result Refusal (List Column) → Rows → List ℕ → List ℕ → ℕ → ℕ → List ℕ → Call
fetch_under (good cs) from input index rows row out =
    let c = ending (fetch_indexed from cs (length out) input index rows row) out in
    record { answer = asked_for row c.answer; buffer = c.buffer }
fetch_under (bad e) from input index rows row out = ending (refused e 0 []) out

-- the answer and the buffer at exit, from the text of the declarations, the kind of rows, the input, the index and the count, the row and the buffer
-- at entry
unfoldable pub fetch : List ℕ → Rows → List ℕ → List ℕ → ℕ → ℕ → List ℕ → Call
fetch decls from input index rows row out = fetch_under (front decls (length input)) from input index rows row out

-- what every call of `fetch` promises: the whole answer, and every byte of the buffer that it was lent
pub record Fetches (decls : List ℕ) (from : Rows) (input index : List ℕ) (rows row : ℕ) (entry : List ℕ) (a : Answer) (exit : List ℕ) : Type 0 where
  pub answers : a ≡ (fetch decls from input index rows row entry).answer
  pub leaves : exit ≡ (fetch decls from input index rows row entry).buffer
