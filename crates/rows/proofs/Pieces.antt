-- Where the rows done end: one row more is the row at the front of what is left behind those before it (by induction on how many), so a place
-- that keeps up with the rows is the place of the definition; and the whole call, by its front.
use Prim.Native.Nat.{◌+◌, ◌≤◌, suc, zero, ℕ}
use native.Mathlib.Numerals.{add-one}
use native.Mathlib.Omega.{arith}
use mathlib.Core.List.{List}
use mathlib.Core.Path.{◌∙◌, ◌≡◌, refl}
use lib.ListN.{drop, length, length-drop}
use Rattle.fields.specs.Front.{front}
use Rattle.rows.proofs.Calls.{refused-front, rows-converted}
use Rattle.rows.specs.Pieces.{ConvertsPiece, behind_row, behind_rows, convert_piece, place_of, place_under}
use Rattle.rows.specs.Stream.{read_row, run}
use Rattle.table.specs.Cell.{Cell}
use Rattle.table.specs.Outcome.{Refusal, answer_of, at, buffer_of, refused}
use Rattle.table.specs.Result.{Result, bad, good}
use Rattle.table.specs.declared.Answer.{Answer}
use Rattle.table.specs.declared.Column.{Column}
use Rattle.table.specs.declared.Rows.{Rows}

module _ (from : Rows) (cs : List Column) where
  -- the row at the front, and no more
  abbrev one_more : List ℕ → List ℕ
  one_more s = behind_row (read_row from cs s) s (λ rest. rest)

  pub behind-step : (m : ℕ) (s : List ℕ) → behind_rows from cs (suc m) s ≡ one_more (behind_rows from cs m s)
  unfolding behind_rows behind_row
  behind-step zero s = refl
  behind-step (suc m) s = go (read_row from cs s) refl (behind-step m)
    where
      go : (r : Result Refusal (List Cell × List ℕ)) → read_row from cs s ≡ r → ((t : List ℕ) → behind_rows from cs (suc m) t ≡ one_more (behind_rows from cs m t))
          → behind_row r s (λ rest. behind_rows from cs (suc m) rest) ≡ one_more (behind_row r s (λ rest. behind_rows from cs m rest))
      go (good p) e again = again p.1
      go (bad x) e again = rw e

  -- the place keeps up with a row that reads
  pub behind_more : (m place : ℕ) (s rest : List ℕ) (xs : List Cell) → behind_rows from cs m s ≡ drop place s → read_row from cs (drop place s) ≡ good (xs, rest)
      → behind_rows from cs (m + 1) s ≡ rest
  unfolding behind_row
  behind_more m place s rest xs h e = rw (add-one, behind-step m s, h, e)

  -- and is the place of a refusal at the next
  pub place-refused : (m place : ℕ) (s out : List ℕ) (e : Refusal) → behind_rows from cs m s ≡ drop place s → place ≤ length s → place_of from cs s (refused e m out) ≡ place
  unfolding place_of
  place-refused m place s out e h inside = rw (h, length-drop place s) (omega arith)

-- ---- the whole call

module _ (decls : List ℕ) (from to : Rows) (input out : List ℕ) where
  pub piece-refused : (n k : ℕ) → front decls (length input) ≡ bad (at k n)
      → ConvertsPiece decls from to input out (record { number = n; row = 0; column = k; rows = 0; bytes = 0 }) 0 out
  unfolding convert_piece place_under
  piece-refused n k e =
      let c = refused-front decls from to input out n k e in
      record { answers = c.answers; leaves = c.leaves; stands = rw e }

  pub piece-converted : (cs : List Column) → front decls (length input) ≡ good cs → (a : Answer) (place : ℕ) (exit : List ℕ)
      → a ≡ answer_of (run from to cs (length out) input) → exit ≡ buffer_of (run from to cs (length out) input) out
      → place ≡ place_of from cs input (run from to cs (length out) input) → ConvertsPiece decls from to input out a place exit
  unfolding convert_piece place_under
  piece-converted cs e a place exit x y z =
      let c = rows-converted decls from to input out cs e a exit x y in
      record { answers = c.answers; leaves = c.leaves; stands = z ∙ rw e }
