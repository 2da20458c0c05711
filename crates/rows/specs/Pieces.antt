-- A table in pieces: the converter's call, and the place in its input where the rows done end. A caller who holds only the front of a table
-- goes on from there once more of it has come.
use Rattle.std.specs.Prelude.{◌-◌, suc, zero, ℕ, List, ◌≡◌, length}
use Rattle.fields.specs.Front.{front}
use Rattle.rows.specs.Convert.{convert}
use Rattle.rows.specs.Stream.{read_row, run}
use Rattle.table.specs.Cell.{Cell}
use Rattle.table.specs.Outcome.{Call, Outcome, Refusal, accepted, refused}
use Rattle.table.specs.Result.{Result, bad, good}
use Rattle.table.specs.declared.Answer.{Answer}
use Rattle.table.specs.declared.Column.{Column}
use Rattle.table.specs.declared.Rows.{Rows}

-- what is left behind the row at the front of s, and then behind more rows; where none reads it is s itself
unfoldable pub behind_row : Result Refusal (List Cell × List ℕ) → List ℕ → (List ℕ → List ℕ) → List ℕ
behind_row (good p) s more = more p.1
behind_row (bad e) s more = s

-- what is left of a stream behind its first so many rows; white space before a row of TABLEDATA belongs to that row, so it is still there
unfoldable pub behind_rows : Rows → List Column → ℕ → List ℕ → List ℕ
behind_rows from cs zero s = s
behind_rows from cs (suc m) s = behind_row (read_row from cs s) s (λ rest. behind_rows from cs m rest)

-- the place where the rows done end: where the refused row begins, or the input's length on acceptance
unfoldable pub place_of : Rows → List Column → List ℕ → Outcome → ℕ
place_of from cs s (accepted r out) = length s
place_of from cs s (refused e r out) = length s - length (behind_rows from cs r s)

-- 0 for refusals before any row
unfoldable pub place_under : Result Refusal (List Column) → (List Column → ℕ) → ℕ
place_under (good cs) place-under = place-under cs
place_under (bad e) place-under = 0

-- ---- the call

-- the call of `convert`, and the place
pub record PieceCall : Type 0 where
  pub call : Call
  pub place : ℕ

unfoldable pub convert_piece : List ℕ → Rows → Rows → List ℕ → List ℕ → PieceCall
convert_piece decls from to input out =
    record {
      call = convert decls from to input out;
      place = place_under (front decls (length input)) (λ cs. place_of from cs input (run from to cs (length out) input));
    }

-- what every call of `convert_piece` promises: the whole answer, every byte of the buffer that it was lent, and the place
pub record ConvertsPiece (decls : List ℕ) (from to : Rows) (input entry : List ℕ) (a : Answer) (place : ℕ) (exit : List ℕ) : Type 0 where
  pub answers : a ≡ (convert_piece decls from to input entry).call.answer
  pub leaves : exit ≡ (convert_piece decls from to input entry).call.buffer
  pub stands : place ≡ (convert_piece decls from to input entry).place
