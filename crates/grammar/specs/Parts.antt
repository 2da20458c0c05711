-- Parts of one input, each converted by a call of its own, on whatever core and in whatever order: what joining them promises of one call on the whole.
use Rattle.std.specs.Prelude.{◌+◌, ◌-◌, ◌≤◌, suc, zero, ℕ, List, [], ◌++◌, ◌∷◌, ◌⊎◌, ◌≡◌, drop, length, take}
use Rattle.demands.specs.Demands.{output}
use Rattle.fields.specs.Fields.{declare}
use Rattle.grammar.specs.Resumption.{followed_by}
use Rattle.parts.specs.declared.Joined.{Joined}
use Rattle.parts.specs.declared.Part.{Part}
use Rattle.rows.specs.Convert.{convert, under_columns}
use Rattle.rows.specs.Pieces.{convert_piece}
use Rattle.rows.specs.Stream.{run}
use Rattle.table.specs.Outcome.{Call, Refusal, accepted, ending}
use Rattle.table.specs.Result.{bad, good}
use Rattle.table.specs.declared.Answer.{Answer}
use Rattle.table.specs.declared.Column.{Column}
use Rattle.table.specs.declared.Rows.{Rows}

-- ---- the parts

-- a part of the input, wherever it begins and ends, converted by a call into a buffer of its own: its numbers are what that call answers
pub record PartOf (decls : List ℕ) (from to : Rows) (input : List ℕ) (p : Part) (written : List ℕ) : Type 0 where
  pub inside : p.start + p.length ≤ length input
  pub buffer : List ℕ
  pub room-is : p.room ≡ length buffer
  pub answers : record { number = p.number; row = p.row; column = p.column; rows = p.rows; bytes = p.bytes }
      ≡ (convert decls from to (take p.length (drop p.start input)) buffer).answer
  pub place_is : p.place ≡ (convert_piece decls from to (take p.length (drop p.start input)) buffer).place
  pub writes : written ≡ output (convert decls from to (take p.length (drop p.start input)) buffer)

-- any list of them: parts may leave gaps, overlap, or stand in any order
pub data PartsOf (decls : List ℕ) (from to : Rows) (input : List ℕ) : List Part → List (List ℕ) → Type 0 where
  no-parts : PartsOf decls from to input [] []
  part_then : {p : Part} {w : List ℕ} {ps : List Part} {ws : List (List ℕ)}
      → PartOf decls from to input p w → PartsOf decls from to input ps ws → PartsOf decls from to input (p ∷ ps) (w ∷ ws)

-- what the first so many of them wrote, one behind the other
unfoldable pub first_of : ℕ → List (List ℕ) → List ℕ
first_of zero ws = []
first_of (suc n) [] = []
first_of (suc n) (w ∷ ws) = w ++ first_of n ws

-- ---- the whole

-- one call on an input of any length: `convert`, but that the size of the input is not judged (6)
unfoldable pub convert_long : List ℕ → Rows → Rows → List ℕ → List ℕ → Call
convert_long decls from to input out = ending (under_columns (declare decls) (λ cs. run from to cs (length out) input)) out

unfoldable pub answer_in : Joined → Answer
answer_in j = record { number = j.number; row = j.row; column = j.column; rows = j.rows; bytes = j.bytes }

-- these are the rows done and the bytes written of one call on the whole, which goes on behind the place in the room that is left
pub record SoFar (cs : List Column) (from to : Rows) (input : List ℕ) (room : ℕ) (j : Joined) (w : List ℕ) : Type 0 where
  pub inside : j.place ≤ length input
  pub bytes-are : j.bytes ≡ length w
  pub fits : j.bytes ≤ room
  pub goes_on : run from to cs room input ≡ followed_by (accepted j.rows w) (run from to cs (room - j.bytes) (drop j.place input))

-- no row is done
pub record NothingDone (j : Joined) (w : List ℕ) : Type 0 where
  pub no_rows : j.rows ≡ 0
  pub no_bytes : j.bytes ≡ 0
  pub at-the-start : j.place ≡ 0
  pub not_written : w ≡ []

-- joined parts that wrote w: how far one call on the whole has come; or, where it has ended, its whole answer and every byte of its buffer
pub record OneCall (decls : List ℕ) (from to : Rows) (input : List ℕ) (room : ℕ) (j : Joined) (w : List ℕ) : Type 0 where
  pub either : (j.ended ≡ 0) ⊎ (j.ended ≡ 1)
  pub so_far : j.ended ≡ 0 → (cs : List Column) → declare decls ≡ good cs → SoFar cs from to input room j w
  -- under declarations that are refused nothing is done
  pub nothing-done : j.ended ≡ 0 → (e : Refusal) → declare decls ≡ bad e → NothingDone j w
  pub whole : j.ended ≡ 1 → (out : List ℕ) → length out ≡ room
      → convert_long decls from to input out ≡ record { answer = answer_in j; buffer = w ++ drop (length w) out }
