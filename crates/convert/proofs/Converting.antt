-- The ways out of the loop over rows: the answer for the whole input is the answer of going on from here, and here is where the rows done end
-- (RowsDone); a row more is the law of moving. Cited by convert_rows.
use Prim.Native.Nat.{◌-◌, ◌<◌, ℕ}
use native.Mathlib.Omega.{arith}
use mathlib.Core.Bool.{false, true}
use mathlib.Core.List.{List, ◌++◌}
use mathlib.Core.Path.{◌∙◌, ◌≡◌, ap, sym}
use lib.Dec.{ltb}
use lib.ListN.{drop, length, take, take-append-drop}
use borrow.Author.Tests.{lt-ltb}
use Rattle.moving.proofs.Rows.{as_long, beyond, turned, wrote}
use Rattle.moving.specs.Rows.{RowsDone}
use Rattle.rows.proofs.Laws.{within_step}
use Rattle.rows.proofs.Pieces.{place-refused}
use Rattle.rows.specs.Bounds.{Within}
use Rattle.rows.specs.Pieces.{place_of}
use Rattle.rows.specs.Sequence.{row_then}
use Rattle.rows.specs.Stream.{at_end, fitted, read_row, run, write, write_row, wrote_then}
use Rattle.table.specs.Cell.{Cell}
use Rattle.table.specs.Outcome.{Refusal, accepted, answer_of, at, buffer_of, refused, written}
use Rattle.table.specs.Result.{bad, good}
use Rattle.table.specs.declared.Answer.{Answer}
use Rattle.table.specs.declared.Column.{Column}
use Rattle.table.specs.declared.Rows.{Rows}

-- what the function gives back
pub record Finished (from to : Rows) (cols : List Column) (s out₀ out : List ℕ) (a : Answer) (place : ℕ) : Type 0 where
  pub answers : a ≡ answer_of (run from to cols (length out₀) s)
  pub leaves : out ≡ buffer_of (run from to cols (length out₀) s) out₀
  pub stands : place ≡ place_of from cols s (run from to cols (length out₀) s)

module _ (from to : Rows) (cols : List Column) (are : Within cols) (s out₀ out : List ℕ) (place rows bytes : ℕ) (inv : RowsDone from to cols s out₀ out place rows bytes) where
  long : length (take bytes out) ≡ bytes
  long = as_long from to cols are s out₀ out place rows bytes inv

  laid : out ≡ take bytes out ++ drop (length (take bytes out)) out₀
  laid = sym (take-append-drop bytes out) ∙ ap (λ (l : List ℕ). take bytes out ++ l) inv.kept ∙ rw long

  -- a refusal at this row
  refusal : (e : Refusal) → run from to cols (length out₀) s ≡ refused e rows (take bytes out)
      → Finished from to cols s out₀ out (record { number = e.number; row = rows; column = e.column; rows = rows; bytes = bytes }) place
  unfolding answer_of buffer_of written
  refusal e q =
      record {
        answers = rw (q, long);
        leaves = rw q laid;
        stands = sym (ap (place_of from cols s) q ∙ place-refused from cols rows place s (take bytes out) e inv.done inv.inside);
      }

  -- no row is left
  pub acceptance : at_end from (drop place s) ≡ true → Finished from to cols s out₀ out (record { number = 0; row = 0; column = 0; rows = rows; bytes = bytes }) (length s)
  unfolding answer_of buffer_of place_of written write
  acceptance h =
      let e : run from to cols (length out₀) s ≡ accepted rows (take bytes out) = inv.ahead ∙ rw (within_step from cols are (drop place s), h) in
      record { answers = rw (e, long); leaves = rw e laid; stands = rw e }

  -- a row is left
  module _ (more : at_end from (drop place s) ≡ false) where
    -- the row does not read
    pub read-refusal : (e : Refusal) → read_row from cols (drop place s) ≡ bad e
        → Finished from to cols s out₀ out (record { number = e.number; row = rows; column = e.column; rows = rows; bytes = bytes }) place
    unfolding row_then write
    read-refusal e q = refusal e (turned from to cols are s out₀ out place rows bytes inv more ∙ rw q)

    module _ (xs : List Cell) (rest : List ℕ) (e : read_row from cols (drop place s) ≡ good (xs, rest)) where
      -- the row has no form
      pub write-refusal : (x : Refusal) → write_row to cols xs ≡ bad x
          → Finished from to cols s out₀ out (record { number = x.number; row = rows; column = x.column; rows = rows; bytes = bytes }) place
      unfolding wrote_then fitted
      write-refusal x w = refusal x (wrote from to cols are s out₀ out place rows bytes inv more xs rest e ∙ rw w)

      -- the row does not fit
      pub room-refusal : (b : List ℕ) → write_row to cols xs ≡ good b → length out - bytes < length b
          → Finished from to cols s out₀ out (record { number = 17; row = rows; column = 0; rows = rows; bytes = bytes }) place
      unfolding wrote_then fitted at
      room-refusal b w h =
          let t : ltb (length out₀) (length (take bytes out ++ b)) ≡ true = lt-ltb (length out₀) (length (take bytes out ++ b))
          (omega (arith, beyond from to cols are s out₀ out place rows bytes inv more xs rest e b w, inv.long, inv.room)) in
          refusal (at 0 17) (wrote from to cols are s out₀ out place rows bytes inv more xs rest e ∙ rw (w, t))
