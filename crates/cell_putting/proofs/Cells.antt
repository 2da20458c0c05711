-- What a cell is written as: null, one element of a scalar, elements with what stands around them.
use Rattle.std.specs.Prelude.{Option}
use Prim.Native.Nat.{◌+◌, ◌-◌, ◌≤◌, ℕ}
use native.Mathlib.Nat.{sub_self}
use native.Mathlib.Omega.{arith}
use mathlib.Core.Bool.{cond, false, false≢true, true}
use mathlib.Core.List.{List, [], ◌++◌, ◌∷◌, append_assoc, append-nil, map}
use mathlib.Core.Path.{◌∙◌, ◌≡◌, ap, refl, subst, sym}
use lib.Dec.{lit≤}
use lib.IntN.{ℤ}
use lib.ListN.{length, length-map, replicate}
use Rattle.binary.specs.Binary.{bytes_of, count_bytes, elements_bytes, number, write_binary, write_binary2}
use Rattle.cell_putting.proofs.Stores.{puts-under}
use Rattle.cell_putting.specs.Clauses.{fill_size, is_text, one_form}
use Rattle.moving.proofs.Puts.{puts-as, puts_then}
use Rattle.moving.specs.Cells.{CellPut, PutsCell}
use Rattle.moving.specs.Contents.{content_form}
use Rattle.moving.specs.Puts.{Puts}
use Rattle.moving.specs.declared.Moved.{Moved}
use Rattle.number.proofs.Laws.{length_to}
use Rattle.rows.specs.Stream.{write_cell}
use Rattle.table.specs.Cell.{is_char, is_null, is_null_list, is_null_of_kind, is_one, is_scalar, null, room_in, show, shown, stands_for_null}
use Rattle.table.proofs.Laws.{bad-good}
use Rattle.table.specs.Bytes.{bytes}
use Rattle.table.specs.Clauses.{size_of}
use Rattle.table.specs.Result.{Result, bad, good}
use Rattle.table.specs.Wrote.{Wrote}
use Rattle.table.specs.Shape.{Bits, Shape, Text, Truths, Whole, shape}
use Rattle.table.specs.declared.Column.{Column}
use Rattle.table.specs.declared.Len.{Len}
use Rattle.table.specs.declared.Len.TheVariants.{Bounded, Fixed, Free}
use Rattle.table.specs.declared.Rows.{Rows}
use Rattle.table.specs.declared.Rows.TheVariants.{Binary, Binary2, TableData}
use Rattle.tabledata.specs.TableData.{close-TD, element_bytes, element_text, open-TD, tagged, write_text}

-- what has a size has a form
pub has-form : (w : Result ℕ (List ℕ)) (n : ℕ) → good n ≡ size_of w → (b : List ℕ) × (w ≡ good b) × (n ≡ length b)
has-form (good b) n e = (b, refl, cc)
has-form (bad k) n e = absurd (bad-good (sym e))

-- ---- text between its tags

pub tagged-put : {l l₁ l₂ l₃ : List ℕ} {o e₁ e₂ e₃ : ℕ} {t : List ℕ} → Puts l o (bytes "<TD>") l₁ e₁ → Puts l₁ e₁ t l₂ e₂ → Puts l₂ e₂ (bytes "</TD>") l₃ e₃ → Puts l o (tagged t) l₃ e₃
unfolding tagged open-TD close-TD
tagged-put u v w = puts_then u (puts_then v w)

-- ---- one element of a scalar

module _ (c : Column) (z : ℤ) (one : is_scalar c ≡ true) where
  pub shows-null : is_null_of_kind (shape c.kind) c.null z ≡ true → show c (z ∷ []) ≡ null
  unfolding show is_null_list stands_for_null
  shows-null h = rw (one, h)

  pub shows-one : is_null_of_kind (shape c.kind) c.null z ≡ false → show c (z ∷ []) ≡ shown (z ∷ [])
  unfolding show is_null_list stands_for_null
  shows-one h = rw (one, h)

-- kinds whose content does not depend on the room of the cell, and whose elements all have a form
abbrev pub Plainly : Shape → Type 0
Plainly Truths = Unit {0}
Plainly Bits = ⊥
Plainly (Whole g v) = Unit {0}
Plainly Text = ⊥

same-room : (k : Shape) (m n : ℕ) (ns : List ℕ) → Plainly k → bytes_of k m ns ≡ bytes_of k n ns
unfolding bytes_of
same-room Truths m n ns p = refl
same-room (Whole g v) m n ns p = refl
same-room Bits m n ns p = absurd p
same-room Text m n ns p = absurd p

no-count : (l : Len) (m : ℕ) → is_one l ≡ true → count_bytes l m ≡ []
unfolding count_bytes
no-count (Fixed n) m h = refl
no-count (Bounded n) m h = absurd (false≢true h)
no-count Free m h = absurd (false≢true h)

one-text : (k : Shape) (z : ℤ) → Plainly k → element_text k (z ∷ []) ≡ good (element_bytes k (z ∷ []))
unfolding element_text
one-text Truths z p = refl
one-text (Whole g v) z p = refl
one-text Bits z p = absurd p
one-text Text z p = absurd p

one-bytes : (c : Column) (z : ℤ) → is_scalar c ≡ true → Plainly (shape c.kind) → elements_bytes c (z ∷ []) ≡ content_form (shape c.kind) (z ∷ [])
unfolding elements_bytes content_form
one-bytes c z one p = rw (no-count c.len 1 one) (same-room (shape c.kind) (room_in c.len 1) 1 (map (number (shape c.kind)) (z ∷ [])) p)

pub one_writes : (to : Rows) (c : Column) (k : Shape) (z : ℤ) → is_scalar c ≡ true → shape c.kind ≡ k → Plainly k → write_cell to c (shown (z ∷ [])) ≡ good (one_form to k z)
unfolding write_cell one_form write_text write_binary write_binary2
one_writes TableData c k z one e p = rw (e, one-text k z p)
one_writes Binary c k z one e p = ap good (one-bytes c z one (subst Plainly (sym e) p) ∙ rw e)
one_writes Binary2 c k z one e p = ap good (one-bytes c z one (subst Plainly (sym e) p) ∙ rw e)

-- an element that stands for no null was put
pub one-put : (to : Rows) (c : Column) (k : Shape) (z : ℤ) (next : ℕ) (old : List ℕ) (o : ℕ) (new : List ℕ) (e : ℕ) → is_scalar c ≡ true → shape c.kind ≡ k → Plainly k
    → is_null_of_kind k c.null z ≡ false → Puts old o (one_form to k z) new e → CellPut to c (show c (z ∷ [])) next old o new next e false
unfolding is_null
one-put to c k z next old o new e one q p h u =
    let x : show c (z ∷ []) ≡ shown (z ∷ []) = shows-one c z one (rw q h) in
    record { bytes = one_form to k z; writes = rw x (one_writes to c k z one q p); puts = u; same_next = refl; null_is = rw x }

-- one that does: null was put
pub null-put : (to : Rows) (c : Column) (k : Shape) (z : ℤ) (next : ℕ) (old : List ℕ) (o : ℕ) (new : List ℕ) (r : Option Moved) → is_scalar c ≡ true → shape c.kind ≡ k
    → is_null_of_kind k c.null z ≡ true → PutsCell to c null next old o new r → PutsCell to c (show c (z ∷ [])) next old o new r
null-put to c k z next old o new r one q h u = rw (shows-null c z one (rw q h)) u

-- rows that have tags, and those that have none
pub text-is : (rows : Rows) → is_text rows ≡ true → rows ≡ TableData
unfolding is_text
text-is TableData h = refl
text-is Binary h = absurd (false≢true h)
text-is Binary2 h = absurd (false≢true h)

pub no_text : (P : Rows → Type 0) (rows : Rows) → is_text rows ≡ false → P Binary → P Binary2 → P rows
unfolding is_text
no_text P TableData h a b = absurd (false≢true (sym h))
no_text P Binary h a b = a
no_text P Binary2 h a b = b

-- ---- elements, with what stands around them

filled : (k : Shape) (n : ℕ) (ns : List ℕ) → bytes_of k n ns ≡ bytes_of k (length ns) ns ++ replicate (cond (is_char k) (n - length ns) 0) 0
unfolding bytes_of
filled Truths n ns = sym (append-nil _)
filled Bits n ns = sym (append-nil _)
filled (Whole g v) n ns = sym (append-nil _)
filled Text n ns = rw (sub_self (length ns), append-nil)

pub elements-around : (c : Column) (es : List ℤ) (count : ℕ) → count ≡ length es
    → elements_bytes c es ≡ count_bytes c.len count ++ (content_form (shape c.kind) es ++ replicate (fill_size c count) 0)
unfolding elements_bytes content_form fill_size
elements-around c es count e =
    let n : length (map (number (shape c.kind)) es) ≡ length es = length-map es (number (shape c.kind)) in
    rw e (ap (λ (b : List ℕ). count_bytes c.len (length es) ++ b)
    (filled (shape c.kind) (room_in c.len (length es)) (map (number (shape c.kind)) es)
    ∙ rw n))

pub count_most : (l : Len) (m : ℕ) → length (count_bytes l m) ≤ 4
unfolding count_bytes
count_most (Fixed n) m = lit≤ tt
count_most (Bounded n) m = omega (arith, length_to 256 4 m)
count_most Free m = omega (arith, length_to 256 4 m)

-- their count in the room before them, and NULs behind them
pub elements-filled : (c : Column) (es : List ℤ) (count fill : ℕ) (old entry mid exit : List ℕ) (o end next e : ℕ) → count ≡ length es → fill ≡ fill_size c count
    → Puts old (o + length (count_bytes c.len count)) (content_form (shape c.kind) es) entry end → Wrote entry o (count_bytes c.len count) mid next
    → Puts mid end (replicate fill 0) exit e → Puts old o (elements_bytes c es) exit e
elements-filled c es count fill old entry mid exit o end next e n f u w z =
    puts-as (append_assoc (count_bytes c.len count) _ _ ∙ ap (λ (k : ℕ). count_bytes c.len count ++ (content_form (shape c.kind) es ++ replicate k 0)) f ∙ sym (elements-around c es count n))
    (puts_then (puts-under (count_bytes c.len count) (content_form (shape c.kind) es) u w) z)
