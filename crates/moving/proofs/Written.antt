-- Rows written one after the other, whatever was done before them (RowsMoved): none at first, and a row more is one step of `rows_written`. Where the
-- rows before are done, so are these (rows-further), by induction on how many they are: `read` and `write` go one step for each. Cited by move_rows
-- and by the converter.
use Prim.Native.Nat.{◌+◌, ◌≤◌, suc, zero, ℕ}
use native.Mathlib.Nat.{add-suc, add-zero}
use native.Mathlib.Numerals.{add-one}
use native.Mathlib.Omega.{arith}
use mathlib.Core.Bool.{false}
use mathlib.Core.List.{List, [], ◌++◌, append_assoc, append-nil}
use mathlib.Core.Path.{◌∙◌, ◌≡◌, ap, ap₂, refl, sym}
use lib.Dec.{ltb}
use lib.ListN.{drop, length, length-append, length-drop, take}
use lib.Seq.{length-take-le}
use borrow.Author.Tests.{le-ltb}
use Rattle.moving.proofs.Lists.{drop-sets, more-kept, take-sets}
use Rattle.moving.proofs.Rows.{row-left}
use Rattle.moving.specs.Rows.{RowsFurther, RowsMoved, rows_written}
use Rattle.rows.proofs.Laws.{within-less, within_step}
use Rattle.rows.proofs.Pieces.{behind-step}
use Rattle.rows.specs.Bounds.{Within}
use Rattle.rows.specs.Pieces.{behind_row, behind_rows}
use Rattle.rows.specs.Sequence.{row_then}
use Rattle.rows.specs.Stream.{fitted, read, read_row, write, write_row, wrote_then}
use Rattle.table.proofs.Laws.{bind-good, holds_at}
use Rattle.table.proofs.Wrote.{wrote-long, wrote_none, wrote_then_lem}
use Rattle.table.specs.Cell.{Cell}
use Rattle.table.specs.Result.{◌>>=◌, good}
use Rattle.table.specs.Wrote.{Wrote}
use Rattle.table.specs.declared.Column.{Column}
use Rattle.table.specs.declared.Rows.{Rows}

-- the last of some rows that are written: it stands behind the others, and so do its bytes
pub record LastWritten (from to : Rows) (cols : List Column) (n : ℕ) (s added rest : List ℕ) : Type 0 where
  pub before : List ℕ
  pub behind : List ℕ
  pub cells : List Cell
  pub bytes : List ℕ
  pub first : rows_written from to cols n s ≡ good (before, behind)
  pub reads : read_row from cols behind ≡ good (cells, rest)
  pub writes : write_row to cols cells ≡ good bytes
  pub added_is : added ≡ before ++ bytes

module _ (from to : Rows) (cols : List Column) where
  -- ---- a row more, or none

  pub written-more : (n : ℕ) (s before t : List ℕ) (xs : List Cell) (rest b : List ℕ) → rows_written from to cols n s ≡ good (before, t) → read_row from cols t ≡ good (xs, rest)
      → write_row to cols xs ≡ good b → rows_written from to cols (n + 1) s ≡ good (before ++ b, rest)
  unfolding rows_written
  written-more n s before t xs rest b h r w = rw (add-one, h, r, w)

  pub rows_none : (s old : List ℕ) (place rows bytes : ℕ) → place ≤ length s → bytes ≤ length old → RowsMoved from to cols s old place rows bytes old place rows bytes
  unfolding rows_written
  rows_none s old place rows bytes inside room =
      record { inside = inside; room = room; count = 0; added = []; counted = omega arith; written = refl; wrote = wrote_none old bytes }

  -- the row at the place is written behind the others
  pub rows_more : (s old : List ℕ) (place₀ rows₀ bytes₀ : ℕ) (out : List ℕ) (place rows bytes : ℕ) → RowsMoved from to cols s old place₀ rows₀ bytes₀ out place rows bytes
      → (xs : List Cell) (next : ℕ) → read_row from cols (drop place s) ≡ good (xs, drop next s) → next ≤ length s
      → (b : List ℕ) → write_row to cols xs ≡ good b → bytes + length b ≤ length out → (out' : List ℕ) (bytes' : ℕ) → Wrote out bytes b out' bytes'
      → RowsMoved from to cols s old place₀ rows₀ bytes₀ out' next (rows + 1) bytes'
  rows_more s old place₀ rows₀ bytes₀ out place rows bytes m xs next q hi b w fits out' bytes' u =
      record {
        inside = hi;
        room = omega (arith, wrote-long u, u.next-is);
        count = m.count + 1;
        added = m.added ++ b;
        counted = omega (arith, m.counted);
        written = written-more m.count (drop place₀ s) m.added (drop place s) xs (drop next s) b m.written q w;
        wrote = wrote_then_lem m.wrote u;
      }

  -- ---- what rows that are written are made of

  none_written : (s added rest : List ℕ) → rows_written from to cols 0 s ≡ good (added, rest) → ◌≡◌ {A = List ℕ × List ℕ} ([], s) (added, rest)
  unfolding rows_written
  none_written s added rest h = cc

  last_written : (n : ℕ) (s added rest : List ℕ) → rows_written from to cols (suc n) s ≡ good (added, rest) → LastWritten from to cols n s added rest
  unfolding rows_written
  last_written n s added rest h =
      let first = bind-good (rows_written from to cols n s)
      (λ (p : List ℕ × List ℕ). read_row from cols p.1 >>= λ q. write_row to cols q.0 >>= λ b. good (p.0 ++ b, q.1)) (added, rest) h in
      let one = bind-good (read_row from cols first.0.1) (λ (q : List Cell × List ℕ). write_row to cols q.0 >>= λ b. good (first.0.0 ++ b, q.1)) (added, rest) first.2 in
      let form = bind-good (write_row to cols one.0.0) (λ (b : List ℕ). good (first.0.0 ++ b, one.0.1)) (added, rest) one.2 in
      let same : ◌≡◌ {A = List ℕ × List ℕ} (first.0.0 ++ form.0, one.0.1) (added, rest) = let e = form.2 in cc in
      record {
        before = first.0.0;
        behind = first.0.1;
        cells = one.0.0;
        bytes = form.0;
        first = first.1;
        reads = one.1 ∙ ap (λ (z : List ℕ × List ℕ). good (one.0.0, z.1)) same;
        writes = form.1;
        added_is = sym (ap (λ (z : List ℕ × List ℕ). z.0) same);
      }

  -- ---- where the rows before are done

  module _ (are : Within cols) where
    -- each takes at least a byte
    written-less : (n : ℕ) (s added rest : List ℕ) → rows_written from to cols n s ≡ good (added, rest) → length rest + n ≤ length s
    written-less zero s added rest h = omega (arith, ap (λ (z : List ℕ × List ℕ). length z.1) (none_written s added rest h))
    written-less (suc n) s added rest h =
        let k = last_written n s added rest h in
        omega (arith, written-less n s k.before k.behind k.first, holds_at (within-less from cols k.behind are) k.reads)

    -- what is left of the stream is what is left behind them
    written_behind : (n : ℕ) (s : List ℕ) (rows : ℕ) (t added rest : List ℕ) → behind_rows from cols rows s ≡ t → rows_written from to cols n t ≡ good (added, rest)
        → behind_rows from cols (rows + n) s ≡ rest
    unfolding behind_row
    written_behind zero s rows t added rest d h = rw add-zero (d ∙ ap (λ (z : List ℕ × List ℕ). z.1) (none_written t added rest h))
    written_behind (suc n) s rows t added rest d h =
        let k = last_written n t added rest h in
        rw (add-suc, behind-step from cols (rows + n) s, written_behind n s rows t k.before k.behind d k.first, k.reads)

    -- a row that reads, has a form and fits is one step of `read` and one of `write`
    row-ahead : (room rows : ℕ) (out t : List ℕ) (xs : List Cell) (rest b : List ℕ) → read_row from cols t ≡ good (xs, rest) → write_row to cols xs ≡ good b → length (out ++ b) ≤ room
        → write to cols room rows out (read from cols t) ≡ write to cols room (rows + 1) (out ++ b) (read from cols rest)
    unfolding row_then write wrote_then fitted
    row-ahead room rows out t xs rest b r w fits =
        let here = row-left from cols t xs rest are r in
        let small : ltb room (length (out ++ b)) ≡ false = le-ltb room (length (out ++ b)) fits in
        rw (within_step from cols are t, here, r, w, small)

    written-ahead : (n room rows : ℕ) (out t added rest : List ℕ) → rows_written from to cols n t ≡ good (added, rest) → length out + length added ≤ room
        → write to cols room rows out (read from cols t) ≡ write to cols room (rows + n) (out ++ added) (read from cols rest)
    written-ahead zero room rows out t added rest h fits =
        let e = none_written t added rest h in
        ap₂ (λ (k : ℕ) (z : List ℕ × List ℕ). write to cols room k z.0 (read from cols z.1)) (sym (add-zero rows)) (ap₂ (λ (x y : List ℕ). (x, y)) (sym (append-nil out)) refl)
        ∙ ap (λ (z : List ℕ × List ℕ). write to cols room (rows + 0) (out ++ z.0) (read from cols z.1)) e
    written-ahead (suc n) room rows out t added rest h fits =
        let k = last_written n t added rest h in
        let long = ap length k.added_is ∙ length-append k.before k.bytes in
        let both = length-append (out ++ k.before) k.bytes in
        let front = length-append out k.before in
        written-ahead n room rows out t k.before k.behind k.first (omega (arith, long))
        ∙ row-ahead room (rows + n) (out ++ k.before) k.behind k.cells rest k.bytes k.reads k.writes (omega (arith, long, both, front))
        ∙ ap₂ (λ (m : ℕ) (l : List ℕ). write to cols room m l (read from cols rest)) (omega arith) (append_assoc out k.before k.bytes ∙ ap (λ (l : List ℕ). out ++ l) (sym k.added_is))

-- some rows more are done
pub rows-further : {from to : Rows} {cols : List Column} {s old : List ℕ} {place rows bytes : ℕ} {new : List ℕ} {place' rows' bytes' : ℕ}
    → RowsMoved from to cols s old place rows bytes new place' rows' bytes' → Within cols → place ≤ length s → rows ≤ place
    → RowsFurther from to cols s old place rows bytes new place' rows' bytes'
rows-further {from} {to} {cols} {s} {old} {place} {rows} {bytes} {new} {place'} {rows'} {bytes'} m are lo few =
    let less = written-less from to cols are m.count (drop place s) m.added (drop place' s) m.written in
    let long : length new ≡ length old = wrote-long m.wrote in
    let fits : bytes + length m.added ≤ length old = omega (arith, m.room, m.wrote.next-is, long) in
    let fewer : rows' ≤ place' = omega (arith, less, length-drop place s, length-drop place' s, m.inside, m.counted) in
    let front : take bytes' new ≡ take bytes old ++ m.added = ap₂ take m.wrote.next-is m.wrote.now-is ∙ take-sets m.added old bytes fits in
    record {
      inside = m.inside;
      fewer = fewer;
      room = m.room;
      long = long;
      onward = omega (arith, less, length-drop place s, length-drop place' s, m.inside);
      further = λ out₀ d. record {
        inside = m.inside;
        fewer = fewer;
        room = m.room;
        long = long ∙ d.long;
        kept = rw (m.wrote.next-is, m.wrote.now-is) (drop-sets m.added old bytes fits ∙ more-kept (length m.added) bytes old out₀ d.kept);
        done = rw m.counted (written_behind from to cols are m.count s rows (drop place s) m.added (drop place' s) d.done m.written);
        ahead = d.ahead
            ∙ written-ahead from to cols are m.count (length out₀) rows (take bytes old) (drop place s) m.added (drop place' s) m.written
            (omega (arith, fits, d.long, length-take-le bytes old (omega arith)))
            ∙ rw (m.counted, front);
      };
    }
