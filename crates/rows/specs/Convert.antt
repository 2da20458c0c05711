-- The converter: the front of the call, then the rows.
use Rattle.std.specs.Prelude.{ℕ, List, [], ◌≡◌, length}
use Rattle.fields.specs.Front.{front}
use Rattle.rows.specs.Stream.{run}
use Rattle.table.specs.Outcome.{Call, Outcome, Refusal, ending, refused}
use Rattle.table.specs.Result.{Result, bad, good}
use Rattle.table.specs.declared.Answer.{Answer}
use Rattle.table.specs.declared.Column.{Column}
use Rattle.table.specs.declared.Rows.{Rows}

-- "their refusal comes first, at row 0 with its place as the column, and no row is read"
unfoldable pub under_columns : Result Refusal (List Column) → (List Column → Outcome) → Outcome
under_columns (good cs) run-them = run-them cs
under_columns (bad e) run-them = refused e 0 []

unfoldable pub converting : List ℕ → Rows → Rows → List ℕ → ℕ → Outcome
converting decls from to input room = under_columns (front decls (length input)) (λ cs. run from to cs room input)

-- ---- the call

-- the answer and the buffer at exit, from the text of the declarations, the two kinds, the input and the buffer at entry
unfoldable pub convert : List ℕ → Rows → Rows → List ℕ → List ℕ → Call
convert decls from to input out = ending (converting decls from to input (length out)) out

-- what every call of `convert` promises: the whole answer, and every byte of the buffer that it was lent
pub record Converts (decls : List ℕ) (from to : Rows) (input entry : List ℕ) (a : Answer) (exit : List ℕ) : Type 0 where
  pub answers : a ≡ (convert decls from to input entry).answer
  pub leaves : exit ≡ (convert decls from to input entry).buffer
