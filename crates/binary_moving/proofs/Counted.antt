-- What a cell after its count reads as: its elements, or null where it is skipped.
use Rattle.std.specs.Prelude.{Option, Some, None}
use Prim.Native.Nat.{◌+◌, ◌≤◌, ℕ}
use native.Mathlib.Omega.{arith}
use mathlib.Core.Bool.{Bool, false, true}
use mathlib.Core.List.{List, []}
use mathlib.Core.Path.{◌∙◌, ◌≡◌, ap, refl, subst, sym}
use lib.Dec.{lit≤}
use lib.IntN.{ℤ}
use lib.ListN.{drop, length, length-drop, take}
use lib.Seq.{drop-drop, length-take-le}
use borrow.Author.Tests.{eqb-true, le-ltb}
use Rattle.binary.specs.Binary.{content, content_bytes, count_in, first_bytes, read_binary, shows}
use Rattle.binary.specs.Reading.{read_counted}
use Rattle.binary_moving.specs.Clauses.{MovesCounted, NotText, counted_cell, empty_as, flag_as, skipped}
use Rattle.binary_reading.proofs.Cells.{binary2-counted, none_in}
use Rattle.moving.specs.Cells.{MovesCell, MovesRead, PutsCell, shown_as}
use Rattle.moving.specs.Contents.{InBinary}
use Rattle.moving.specs.declared.Moved.{Moved}
use Rattle.number.specs.Clauses.{size}
use Rattle.number.specs.declared.Integer.{Integer}
use Rattle.rows.specs.Stream.{read_cell}
use Rattle.table.proofs.Laws.{nil-not-null}
use Rattle.table.specs.Cell.{Cell, empty_is_null, null, show}
use Rattle.table.specs.Result.{Result, ◌>>=◌, good, bad}
use Rattle.table.specs.Shape.{shape}
use Rattle.table.specs.declared.Column.{Column}
use Rattle.table.specs.declared.Rows.{Rows}
use Rattle.table.specs.declared.Rows.TheVariants.{Binary, Binary2, TableData}

pub size-most : (kind : Integer) → size kind ≤ 8
size-most Integer.UnsignedByte = lit≤ tt
size-most Integer.Short = lit≤ tt
size-most Integer.Int = lit≤ tt
size-most Integer.Long = lit≤ tt

-- ---- a content that is there

module _ (c : Column) (n : ℕ) (s : List ℕ) (place : ℕ) (room : place + content_bytes (shape c.kind) n ≤ length s) where
  abbrev part : List ℕ
  part = take (content_bytes (shape c.kind) n) (drop place s)

  first_part : first_bytes (content_bytes (shape c.kind) n) (drop place s) ≡ good (part, drop (place + content_bytes (shape c.kind) n) s)
  unfolding first_bytes
  first_part =
      rw (le-ltb (length (drop place s)) (content_bytes (shape c.kind) n) (omega (arith, length-drop place s)))
      (ap (λ (t : List ℕ). good (part, t)) (drop-drop (content_bytes (shape c.kind) n) place s))

  pub counted-flagged : read_counted c true n (drop place s) ≡ good (null, drop (place + content_bytes (shape c.kind) n) s)
  unfolding read_counted shows
  counted-flagged = rw first_part

  pub counted-reads : (es : List ℤ) → content (shape c.kind) n part ≡ good es → read_counted c false n (drop place s) ≡ good (show c es, drop (place + content_bytes (shape c.kind) n) s)
  unfolding read_counted shows
  counted-reads es e = rw (first_part, e)

none-shown : (c : Column) → empty_is_null (show c []) ≡ null
unfolding show empty_is_null
none-shown c = rw nil-not-null

no-elements : (c : Column) (n : ℕ) (s : List ℕ) (place : ℕ) → place + content_bytes (shape c.kind) n ≤ length s → n ≡ 0
    → content (shape c.kind) n (take (content_bytes (shape c.kind) n) (drop place s)) ≡ good []
no-elements c n s place room z =
    let few : place + content_bytes (shape c.kind) 0 ≤ length s = subst (λ (k : ℕ). place + content_bytes (shape c.kind) k ≤ length s) z room in
    rw z (none_in (shape c.kind) (take (content_bytes (shape c.kind) 0) (drop place s))
    (length-take-le (content_bytes (shape c.kind) 0) (drop place s) (omega (arith, length-drop place s))))

-- ---- by the kind of rows

same : {A : Type 0} (r : Result ℕ (Cell × A)) → (r >>= λ p. good (p.0, p.1)) ≡ r
same (good p) = refl
same (bad n) = refl

-- the count before it
pub cell-counted : (from : Rows) (c : Column) (flagged : Bool) (s t : List ℕ) (n : ℕ) → NotText from → count_in c.len s ≡ good (n, t) → read_cell from c flagged s ≡ counted_cell from c flagged n t
unfolding read_cell counted_cell flag_as empty_as read_binary
cell-counted TableData c flagged s t n h e = absurd h
cell-counted Binary c flagged s t n h e = rw (binary2-counted c false s n t e)
cell-counted Binary2 c flagged s t n h e = binary2-counted c flagged s n t e ∙ sym (same (read_counted c flagged n t))

shown-empty : (from : Rows) (c : Column) (es : List ℤ) → empty_as from (show c es) ≡ shown_as from c es
unfolding empty_as shown_as
shown-empty TableData c es = refl
shown-empty Binary c es = refl
shown-empty Binary2 c es = refl

module _ (c : Column) (n : ℕ) (s : List ℕ) (place : ℕ) (room : place + content_bytes (shape c.kind) n ≤ length s) where
  -- elements that are not skipped
  reads-elements : (from : Rows) (flagged : Bool) (es : List ℤ) → NotText from → skipped from flagged n ≡ false
      → content (shape c.kind) n (take (content_bytes (shape c.kind) n) (drop place s)) ≡ good es
      → counted_cell from c flagged n (drop place s) ≡ good (shown_as from c es, drop (place + content_bytes (shape c.kind) n) s)
  unfolding counted_cell flag_as skipped empty_as shown_as
  reads-elements TableData flagged es h k e = absurd h
  reads-elements Binary flagged es h k e = rw (counted-reads c n s place room es e)
  reads-elements Binary2 flagged es h k e = rw (k, counted-reads c n s place room es e)

  -- a cell that is skipped
  reads-null : (from : Rows) (flagged : Bool) → NotText from → skipped from flagged n ≡ true
      → counted_cell from c flagged n (drop place s) ≡ good (null, drop (place + content_bytes (shape c.kind) n) s)
  unfolding counted_cell flag_as skipped empty_as
  reads-null TableData flagged h k = absurd h
  reads-null Binary flagged h k =
      rw (counted-reads c n s place room [] (no-elements c n s place room (eqb-true n 0 k))) (ap (λ (x : Cell). good (x, drop (place + content_bytes (shape c.kind) n) s)) (none-shown c))
  reads-null Binary2 flagged h k = rw (k, counted-flagged c n s place room)

-- ---- moved

pub counted-moved : (from to : Rows) (c : Column) (flagged : Bool) (n : ℕ) (s : List ℕ) (place : ℕ) (old : List ℕ) (o : ℕ) (new : List ℕ) (r : Option Moved)
    → place + content_bytes (shape c.kind) n ≤ length s → NotText from → skipped from flagged n ≡ false
    → MovesRead (InBinary (shape c.kind) n s place) from to c old o new r → MovesCounted from to c flagged n s place old o new r
counted-moved from to c flagged n s place old o new (Some r) room h k m = record {
  cell = shown_as from c m.es;
  reads = reads-elements c n s place room from flagged m.es h k m.reads.elements ∙ ap (λ (j : ℕ). good (shown_as from c m.es, drop j s)) (sym m.reads.next-is);
  onward = omega (arith, m.reads.next-is);
  inside = omega (arith, m.reads.next-is);
  put = m.put;
}
counted-moved from to c flagged n s place old o new None room h k m = m

pub skipped-moved : (from to : Rows) (c : Column) (flagged : Bool) (n : ℕ) (s : List ℕ) (place next : ℕ) (old : List ℕ) (o : ℕ) (new : List ℕ) (r : Option Moved)
    → next ≡ place + content_bytes (shape c.kind) n → place + content_bytes (shape c.kind) n ≤ length s → NotText from → skipped from flagged n ≡ true
    → PutsCell to c null next old o new r → MovesCounted from to c flagged n s place old o new r
skipped-moved from to c flagged n s place next old o new (Some r) q room h k m = record {
  cell = null;
  reads = reads-null c n s place room from flagged h k ∙ ap (λ (j : ℕ). good (null, drop j s)) (sym (m.same_next ∙ q));
  onward = omega (arith, q, m.same_next);
  inside = omega (arith, q, m.same_next);
  put = record { bytes = m.bytes; writes = m.writes; puts = m.puts; same_next = refl; null_is = m.null_is };
}
skipped-moved from to c flagged n s place next old o new None q room h k m = m

-- with the count before it
pub whole-moved : (from to : Rows) (c : Column) (flagged : Bool) (n : ℕ) (s : List ℕ) (place first : ℕ) (old : List ℕ) (o : ℕ) (new : List ℕ) (r : Option Moved) → NotText from
    → count_in c.len (drop place s) ≡ good (n, drop first s) → place ≤ first → MovesCounted from to c flagged n s first old o new r → MovesCell from to c flagged s place old o new r
whole-moved from to c flagged n s place first old o new (Some r) h q lo m = record {
  cell = m.cell;
  bytes = m.put.bytes;
  reads = cell-counted from c flagged (drop place s) (drop first s) n h q ∙ m.reads;
  onward = omega (arith, m.onward);
  inside = m.inside;
  writes = m.put.writes;
  puts = m.put.puts;
  null_is = m.put.null_is;
}
whole-moved from to c flagged n s place first old o new None h q lo m = m
