-- A row more is done: one step of `read` and one of `write`. Cited by every loop over rows that converts.
use Prim.Native.Nat.{◌+◌, ◌-◌, ◌<◌, ◌≤◌, ℕ}
use native.Mathlib.Omega.{arith}
use mathlib.Core.Bool.{Bool, false, false≢true, true}
use mathlib.Core.List.{List, [], ◌++◌, ◌∷◌}
use mathlib.Core.Path.{◌∙◌, ◌≡◌, ap, refl}
use lib.Dec.{ltb}
use lib.ListN.{drop, length, length-append, take}
use lib.Seq.{length-sets, length-take-le, sets}
use borrow.Author.Tests.{le-ltb}
use Rattle.moving.proofs.Lists.{drop-sets, more-kept, take-sets}
use Rattle.moving.specs.Rows.{RowsDone}
use Rattle.rows.proofs.Laws.{within-less, within_step}
use Rattle.rows.proofs.Pieces.{behind_more}
use Rattle.rows.specs.Bounds.{Within}
use Rattle.rows.specs.Pieces.{behind_rows}
use Rattle.rows.specs.Sequence.{row_then}
use Rattle.rows.specs.Stream.{at_end, fitted, is_empty, read, read_row, read_start, run, write, write_row, wrote_then}
use Rattle.table.proofs.Laws.{bad-good, holds_at}
use Rattle.table.specs.Bytes.{after, skip_white, tag}
use Rattle.table.specs.Cell.{Cell}
use Rattle.table.specs.Result.{good}
use Rattle.table.specs.declared.Column.{Column}
use Rattle.table.specs.declared.Rows.{Rows}
use Rattle.table.specs.declared.Rows.TheVariants.{Binary, Binary2, TableData}
use Rattle.tabledata.specs.TableData.{open-TR}

pub rows_start : (from to : Rows) (cols : List Column) (s out : List ℕ) (place rows bytes : ℕ) → place ≡ 0 → (rows ≡ 0) × (bytes ≡ 0)
    → RowsDone from to cols s out out place rows bytes
unfolding run behind_rows
rows_start from to cols s out place rows bytes z h =
    record {
      inside = omega arith;
      fewer = omega arith;
      room = omega arith;
      long = refl;
      kept = refl;
      done = rw (z, h.0);
      ahead = rw (z, h.0, h.1);
    }

-- ---- where a row reads, the input is not at its end

no_row : (cols : List Column) (s t : List ℕ) (xs : List Cell) (rest : List ℕ) → skip_white s ≡ t → is_empty t ≡ true → read_row TableData cols s ≡ good (xs, rest) → ⊥
unfolding read_row read_start tag after open-TR is_empty
no_row cols s [] xs rest q e h = bad-good (rw q at h)
no_row cols s (b ∷ t) xs rest q e h = false≢true e

none_left : (from : Rows) (cols : List Column) (s : List ℕ) (xs : List Cell) (rest : List ℕ) → Within cols → is_empty s ≡ true → read_row from cols s ≡ good (xs, rest) → ⊥
unfolding is_empty
none_left from cols [] xs rest a e h = absurd (omega (arith, holds_at (within-less from cols [] a) h))
none_left from cols (b ∷ s) xs rest a e h = false≢true e

pub row-left : (from : Rows) (cols : List Column) (s : List ℕ) (xs : List Cell) (rest : List ℕ) → Within cols → read_row from cols s ≡ good (xs, rest) → at_end from s ≡ false
unfolding at_end
row-left from cols s xs rest a h = go (at_end from s) refl
  where
    go : (t : Bool) → at_end from s ≡ t → t ≡ false
    go false e = refl
    go true e = absurd (ended from e h)
      where
        ended : (from : Rows) → at_end from s ≡ true → read_row from cols s ≡ good (xs, rest) → ⊥
        ended TableData e h = no_row cols s (skip_white s) xs rest refl e h
        ended Binary e h = none_left Binary cols s xs rest a e h
        ended Binary2 e h = none_left Binary2 cols s xs rest a e h

-- ---- a row more

module _ (from to : Rows) (cols : List Column) (are : Within cols) (s out₀ out : List ℕ) (place rows bytes : ℕ) (inv : RowsDone from to cols s out₀ out place rows bytes) where
  pub as_long : length (take bytes out) ≡ bytes
  as_long = length-take-le bytes out inv.room

  -- a row is left
  module _ (more : at_end from (drop place s) ≡ false) where
    pub turned : run from to cols (length out₀) s ≡ write to cols (length out₀) rows (take bytes out) (row_then (read_row from cols (drop place s)) (read from cols))
    turned = inv.ahead ∙ ap (write to cols (length out₀) rows (take bytes out)) (within_step from cols are (drop place s) ∙ rw more)

    module _ (xs : List Cell) (rest : List ℕ) (e : read_row from cols (drop place s) ≡ good (xs, rest)) where
      pub wrote : run from to cols (length out₀) s ≡ wrote_then rows (take bytes out) (fitted (length out₀) (take bytes out) (write_row to cols xs))
          (λ b. write to cols (length out₀) (rows + 1) b (read from cols rest))
      unfolding row_then write
      wrote = turned ∙ rw e

      module _ (b : List ℕ) (w : write_row to cols xs ≡ good b) where
        pub beyond : length (take bytes out ++ b) ≡ bytes + length b
        beyond = length-append (take bytes out) b ∙ ap (λ (n : ℕ). n + length b) as_long

        -- the row is written
        pub row_done : length b ≤ length out - bytes → (next : ℕ) → rest ≡ drop next s → place < next → next ≤ length s → (out' : List ℕ) → out' ≡ sets out bytes b
            → (place' rows' bytes' : ℕ) → place' ≡ next → rows' ≡ rows + 1 → bytes' ≡ bytes + length b
            → RowsDone from to cols s out₀ out' place' rows' bytes'
        unfolding wrote_then fitted
        row_done h next d lo hi out' o place' rows' bytes' ca qr qb =
            let fits : bytes + length b ≤ length out = omega (arith, inv.room) in
            let t : ltb (length out₀) (length (take bytes out ++ b)) ≡ false = le-ltb (length out₀) (length (take bytes out ++ b)) (omega (arith, beyond, inv.long)) in
            let ol : length out' ≡ length out = ap length o ∙ length-sets out bytes b in
            record {
              inside = omega (arith, ca);
              fewer = omega (arith, ca, qr, inv.fewer);
              room = omega (arith, ol, qb);
              long = ol ∙ inv.long;
              kept = rw (qb, o) (drop-sets b out bytes fits ∙ more-kept (length b) bytes out out₀ inv.kept);
              done = rw (ca, qr) (behind_more from cols rows place s rest xs inv.done e ∙ d);
              ahead = wrote ∙ rw (w, t) (rw (ca, qr, qb, o, take-sets b out bytes fits, ← d));
            }
