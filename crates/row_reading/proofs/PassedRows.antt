-- Rows that are passed over, one after the other: the count from the start on is the count of going on from here. Cited by pass_rows.
use Prim.Native.Nat.{◌+◌, ◌<◌, ◌≤◌, ℕ}
use native.Mathlib.Omega.{arith}
use mathlib.Core.Bool.{false, true}
use mathlib.Core.List.{List}
use mathlib.Core.Path.{◌∙◌, ◌≡◌, refl}
use lib.ListN.{drop, length}
use Rattle.row_reading.specs.Clauses.{RowsPassed}
use Rattle.rows.proofs.Laws.{within_step}
use Rattle.rows.specs.Bounds.{Within}
use Rattle.rows.specs.Sequence.{row_then}
use Rattle.rows.specs.Stream.{at_end, passed, read, read_row}
use Rattle.table.specs.Cell.{Cell}
use Rattle.table.specs.Outcome.{answer_of, at}
use Rattle.table.specs.Result.{bad, good}
use Rattle.table.specs.declared.Column.{Column}
use Rattle.table.specs.declared.Rows.{Rows}

module _ (from : Rows) (cols : List Column) (s : List ℕ) (start before : ℕ) where
  pub pass-start : start ≤ length s → before ≤ start → RowsPassed from cols s start before start before
  pass-start h k = record { inside = h; fewer = k; ahead = refl }

  module _ (are : Within cols) (place rows : ℕ) (inv : RowsPassed from cols s start before place rows) where
    pub pass-end : at_end from (drop place s) ≡ true → record { number = 0; row = 0; column = 0; rows = rows; bytes = 0 } ≡ answer_of (passed before (read from cols (drop start s)))
    unfolding answer_of passed
    pass-end h = rw (inv.ahead, within_step from cols are (drop place s), h)

    module _ (more : at_end from (drop place s) ≡ false) where
      pub pass-stop : (n k : ℕ) → read_row from cols (drop place s) ≡ bad (at k n)
          → record { number = n; row = rows; column = k; rows = rows; bytes = 0 } ≡ answer_of (passed before (read from cols (drop start s)))
      unfolding answer_of passed row_then at
      pass-stop n k e = rw (inv.ahead, within_step from cols are (drop place s), more, e)

      pub pass-more : (xs : List Cell) (next : ℕ) → read_row from cols (drop place s) ≡ good (xs, drop next s) → place < next → next ≤ length s
          → RowsPassed from cols s start before next (rows + 1)
      unfolding passed row_then
      pass-more xs next e lo hi = record {
        inside = hi;
        fewer = omega (arith, inv.fewer);
        ahead = inv.ahead ∙ rw (within_step from cols are (drop place s), more, e);
      }
