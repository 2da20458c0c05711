-- What a cell of TABLEDATA reads as, from how it begins, its elements and its end tag.
use Rattle.std.specs.Prelude.{Option, Some, None}
use Prim.Native.Nat.{◌+◌, ◌≤◌, ℕ}
use native.Mathlib.Nat.{le_refl}
use native.Mathlib.Omega.{arith}
use mathlib.Core.Bool.{Bool, false, false≢true, true}
use mathlib.Core.List.{List, [], ◌∷◌, append-nil}
use mathlib.Core.Path.{◌≡◌, refl, subst, sym}
use lib.IntN.{ℤ}
use lib.ListN.{drop, length}
use borrow.Author.Tests.{eq-eqb, eqb-true, le-leb, ne_eqb}
use Rattle.binary.specs.Binary.{count_bytes}
use Rattle.cell_putting.proofs.Cells.{tagged-put}
use Rattle.cell_putting.proofs.Elements.{binary-writes, binary2-writes, elements-put, text-put}
use Rattle.cell_putting.specs.Clauses.{FillsUp, PutsElements}
use Rattle.moving.proofs.Cells.{cell-moved}
use Rattle.moving.proofs.Puts.{puts-as}
use Rattle.moving.specs.Cells.{MovesCell, MovesRead, NeverNull, PutsCell, ReadMoved, shown_as}
use Rattle.moving.specs.Contents.{AsBinary, AsText, ContentMoved, InText, before, content_form}
use Rattle.moving.specs.Puts.{Puts}
use Rattle.moving.specs.declared.Moved.{Moved}
use Rattle.rows.specs.Stream.{read_cell}
use Rattle.table.proofs.Laws.{nil-not-null}
use Rattle.table.specs.Bytes.{bytes}
use Rattle.table.specs.Cell.{bound, empty_is_null, is_char, is_one, is_scalar, null, room_fits, room_in, show}
use Rattle.table.specs.Result.{good}
use Rattle.table.specs.Shape.{Bits, Shape, Text, Truths, Whole, shape}
use Rattle.table.specs.declared.Column.{Column}
use Rattle.table.specs.declared.Len.{Len}
use Rattle.table.specs.declared.Len.TheVariants.{Bounded, Fixed, Free}
use Rattle.table.specs.declared.Rows.{Rows}
use Rattle.table.specs.declared.Rows.TheVariants.{Binary, Binary2, TableData}
use Rattle.tabledata.proofs.Laws.{nil-elements}
use Rattle.tabledata.specs.TableData.{count_fits, read_text, text_cell}
use Rattle.text_moving.specs.Clauses.{ClosesAt, Counts, OpensAs, TextRead}
use Rattle.text_moving.specs.declared.Opening.{Opening}

-- ---- how many there are

own_room : (k : Shape) (m : ℕ) → room_fits k m m ≡ true
unfolding room_fits
own_room Truths m = eq-eqb m m refl
own_room Bits m = eq-eqb m m refl
own_room (Whole g v) m = eq-eqb m m refl
own_room Text m = le-leb m m (le_refl m)

counted : (c : Column) (m : ℕ) → room_fits (shape c.kind) (room_in c.len m) m ≡ true → 1 ≤ m → m ≤ bound c.len → Counts c m
unfolding count_fits
counted c m r k h = record { fits = rw (ne_eqb m 0 (λ e. omega arith), r, le-leb m (bound c.len) h); some = k; few = h }

module _ (c : Column) (m : ℕ) (k : 1 ≤ m) where
  -- "fixed char may be shorter, not longer"
  pub char-counts : (n : ℕ) → c.len ≡ Fixed n → is_char (shape c.kind) ≡ true → m ≤ n → Counts c m
  unfolding room_fits
  char-counts n e t h = counted c m (rw (e, t) (le-leb m n h)) k (rw e h)

  -- "not n of them in a fixed column"
  pub fixed-counts : (n : ℕ) → c.len ≡ Fixed n → m ≡ n → Counts c m
  fixed-counts n e h = counted c m (rw (e, ← h) (own_room (shape c.kind) m)) k (rw e (omega arith))

  -- "or over the bound in another"
  pub bounded-counts : (n : ℕ) → c.len ≡ Bounded n → m ≤ n → Counts c m
  bounded-counts n e h = counted c m (rw e (own_room (shape c.kind) m)) k (rw e h)

  pub free-counts : c.len ≡ Free → m ≤ 4096 → Counts c m
  free-counts e h = counted c m (rw e (own_room (shape c.kind) m)) k (rw e h)

-- one of a scalar
pub one-counts : (c : Column) → is_scalar c ≡ true → Counts c 1
one-counts c h = go c.len refl h
  where
    go : (l : Len) → c.len ≡ l → is_one l ≡ true → Counts c 1
    go (Fixed n) e q = fixed-counts c 1 (omega arith) n e (sym (eqb-true n 1 q))
    go (Bounded n) e q = absurd (false≢true q)
    go Free e q = absurd (false≢true q)

-- ---- what it reads as

module _ (c : Column) (s : List ℕ) (place : ℕ) where
  -- "`<TD/>` is empty." "In TABLEDATA and BINARY an empty cell is null"
  pub empty-reads : (next : ℕ) → OpensAs s place (Some (Opening.Empty next)) → read_text c (drop place s) ≡ good (null, drop next s)
  unfolding read_text text_cell count_fits show empty_is_null
  empty-reads next o = rw (o.0, nil-elements, nil-not-null)

  pub text-reads : (from next : ℕ) (es : List ℤ) → OpensAs s place (Some (Opening.Content from)) → TextRead c s from next es
      → read_text c (drop place s) ≡ good (shown_as TableData c es, drop next s)
  unfolding read_text text_cell shown_as before
  text-reads from next es o t = rw (o.0, t.text.spells.spelled, t.closes.closed, append-nil, t.text.elements, t.fits, t.next-is)

  module _ (to : Rows) (flagged : Bool) (old : List ℕ) (o : ℕ) (new : List ℕ) (r : Option Moved) where
    pub empty-moved : (next : ℕ) → OpensAs s place (Some (Opening.Empty next)) → PutsCell to c null next old o new r → MovesCell TableData to c flagged s place old o new r
    empty-moved next p u = cell-moved TableData to c flagged s place null next old o new r (unfold read_cell in empty-reads next p) p.1 p.2 u

  pub text-moved : (to : Rows) (flagged : Bool) (old : List ℕ) (o : ℕ) (new : List ℕ) (r : Option Moved) (from : ℕ) → OpensAs s place (Some (Opening.Content from))
      → MovesRead (TextRead c s from) TableData to c old o new r → MovesCell TableData to c flagged s place old o new r
  text-moved to flagged old o new (Some r) from p m =
      let t = m.reads in
      cell-moved TableData to c flagged s place (shown_as TableData c m.es) r.next old o new (Some r) (unfold read_cell in text-reads from r.next m.es p t)
      (omega (arith, p.1, t.text.spells.onward, t.next-is)) (omega (arith, t.closes.inside, t.next-is)) m.put
  text-moved to flagged old o new None from p m = m

-- ---- its elements

text-read : (c : Column) {s : List ℕ} {from end : ℕ} {es : List ℤ} → InText (shape c.kind) s from end es → ClosesAt s end → Counts c (length es) → TextRead c s from (end + 5) es
text-read c {end = end} t h k = record { end = end; text = t; closes = h; next-is = refl; fits = k.fits }

-- one of a scalar
pub one-read : (c : Column) (k : Shape) (s : List ℕ) (from end : ℕ) (z : ℤ) → is_scalar c ≡ true → shape c.kind ≡ k → InText k s from end (z ∷ []) → ClosesAt s end
    → TextRead c s from (end + 5) (z ∷ [])
one-read c k s from end z one q t h = text-read c (subst (λ (j : Shape). InText j s from end (z ∷ [])) (sym q) t) h (one-counts c one)

module _ (c : Column) (never : NeverNull c) (s : List ℕ) (from : ℕ) where
  -- as text, between its tags
  pub copied : {old l₁ l₂ l₃ : List ℕ} {o e₁ e₂ e₃ count end : ℕ} → Puts old o (bytes "<TD>") l₁ e₁
      → ContentMoved (InText (shape c.kind) s from) (AsText (shape c.kind)) l₁ e₁ l₂ count end e₂ → ClosesAt s end → Counts c count → Puts l₂ e₂ (bytes "</TD>") l₃ e₃
      → ReadMoved (TextRead c s from) TableData TableData c old o l₃ (end + 5) e₃ false
  copied {old} {l₁} {l₂} {l₃} {o} {e₁} {e₂} {e₃} {count} {end} u m h k w =
      let n : Counts c (length m.es) = subst (Counts c) m.count-is k in
      text-put (TextRead c s from) TableData c never old o l₃ (end + 5) m.es (text-read c m.reads h n) n.some m.bytes e₃ m.writes (tagged-put u m.puts w)

  -- as bytes, with what stands around them
  pub filled_in : {old mid exit : List ℕ} {o size count end last : ℕ} (r : Option Moved) → Counts c count → ((m : ℕ) → length (count_bytes c.len m) ≡ size)
      → ContentMoved (InText (shape c.kind) s from) (AsBinary (shape c.kind)) old (o + size) mid count end last → ClosesAt s end → FillsUp c count (end + 5) mid o last exit r
      → MovesRead (TextRead c s from) TableData Binary c old o exit r × MovesRead (TextRead c s from) TableData Binary2 c old o exit r
  filled_in {old} {mid} {exit} {o} {size} {count} {end} {last} r k z m h f =
      let n : Counts c (length m.es) = subst (Counts c) m.count-is k in
      let content : Puts old (o + length (count_bytes c.len count)) (content_form (shape c.kind) m.es) mid last = rw (z count) (puts-as m.writes m.puts) in
      let put : PutsElements c m.es (end + 5) old o exit r = f.filled old m.es m.count-is content in
      let moved = elements-put (TextRead c s from) TableData c never old o exit (end + 5) m.es (text-read c m.reads h n) n.some in
      (moved Binary (binary-writes c m.es n.some) r put, moved Binary2 (binary2-writes c m.es) r put)
