-- A cell and a row of each of two inputs: what two readers found is one answer. The elements are compared from the front, so that what is left of both
-- decides (same_turn); the row's columns are bits (differing-more), as the flags of a row are. Cited by all functions here.
use Prim.Native.Nat.{◌+◌, ◌<◌, ◌≤◌, suc, ℕ}
use native.Mathlib.Numerals.{towards_suc}
use native.Mathlib.Omega.{arith}
use mathlib.Core.Bool.{Bool, ◌&&◌, false, not, true}
use mathlib.Core.List.{List, [], ◌++◌, ◌∷◌}
use mathlib.Core.Path.{◌∙◌, ◌≡◌, ap, refl, sym}
use lib.IntN.{ℤ}
use lib.ListN.{drop, get_or, length, length-append, take}
use lib.Seq.{drop-cons, get_or-take, length-take-le}
use Rattle.binary.specs.Binary.{flag_bit}
use Rattle.compare.specs.Compare.{same_cell, same_elements}
use Rattle.number.specs.Number.{to_digits}
use Rattle.std.specs.Prelude.{Err, None, Ok, Option, Result as Returned, Some}
use Rattle.row_comparing.specs.Clauses.{EndsRows, OneUnread, PairsCell, PairsRow, differing_bits, pair_of, unread-first, unread-second}
use Rattle.row_comparing.specs.declared.RowPair.{RowPair}
use Rattle.row_reading.proofs.Parts.{cells-stopped, row-onward}
use Rattle.row_reading.specs.Clauses.{cells_end}
use Rattle.rows.specs.Bounds.{Within}
use Rattle.rows.specs.Stream.{read_cells, read_row}
use Rattle.table.specs.Cell.{Cell, null, same_integer, shown}
use Rattle.table.specs.Clauses.{Reads, shown_as}
use Rattle.table.specs.Outcome.{at}
use Rattle.table.specs.Result.{Result, bad, good}
use Rattle.table.specs.declared.Column.{Column}
use Rattle.table.specs.declared.Found.{Found}
use Rattle.table.specs.declared.Reason.{Reason}
use Rattle.table.specs.declared.Rows.{Rows}

-- ---- elements

and-false : (b : Bool) → (b && false) ≡ false
and-false true = refl
and-false false = refl

unlike : (xs ys : List ℤ) → (length xs ≡ length ys → ⊥) → same_elements xs ys ≡ false
unfolding same_elements
unlike [] [] h = absurd (h refl)
unlike [] (y ∷ ys) h = refl
unlike (x ∷ xs) [] h = refl
unlike (x ∷ xs) (y ∷ ys) h = rw (unlike xs ys (λ e. h (ap suc e))) (and-false (same_integer x y))

-- another count of elements
pub other-count : (n m : ℕ) (a b : List ℤ) → n ≤ length a → m ≤ length b → (n ≡ m → ⊥) → same_elements (take n a) (take m b) ≡ false
other-count n m a b h k q = unlike (take n a) (take m b) (λ e. q (sym (length-take-le n a h) ∙ e ∙ length-take-le m b k))

-- the elements from i on: one of each, and then the others
module _ (n : ℕ) (a b : List ℤ) (i : ℕ) (d : ℤ) (more : i < n) (h : n ≤ length a) (k : n ≤ length b) where
  left-of : (l : List ℤ) → n ≤ length l → drop i (take n l) ≡ get_or l i d ∷ drop (i + 1) (take n l)
  left-of l q =
      let e : get_or (take n l) i d ≡ get_or l i d = get_or-take n l i d more in
      let c : drop i (take n l) ≡ get_or (take n l) i d ∷ drop (suc i) (take n l) = drop-cons (take n l) i d (omega (arith, length-take-le n l q)) in
      simp towards_suc (c ∙ ap (λ (z : ℤ). z ∷ drop (suc i) (take n l)) e)

  pub same_turn : same_elements (drop i (take n a)) (drop i (take n b))
      ≡ (same_integer (get_or a i d) (get_or b i d) && same_elements (drop (i + 1) (take n a)) (drop (i + 1) (take n b)))
  unfolding same_elements
  same_turn = rw (left-of a h, left-of b k)

pub none_left : (n : ℕ) (a b : List ℤ) (i : ℕ) → drop i (take n a) ≡ [] → drop i (take n b) ≡ [] → same_elements (drop i (take n a)) (drop i (take n b)) ≡ true
unfolding same_elements
none_left n a b i p q = rw (p, q)

-- ---- a cell of each

module _ (d : Result ℕ (Cell × List ℕ)) (s : List ℕ) (i : ℕ) (a₀ a : List ℤ) (e : Result ℕ (Cell × List ℕ)) (t : List ℕ) (j : ℕ) (b₀ b : List ℤ) where
  pub paired : (f g : Returned Found Reason) → Reads d s i a₀ a f → Reads e t j b₀ b g → PairsCell d s i e t j (pair_of a f b g)
  paired (Ok f) (Ok g) h k = record {
    x = shown_as a f.shown;
    y = shown_as b g.shown;
    found = h.found;
    found-other = k.found;
    shows = refl;
    within = (h.within.0, h.within.1);
    within-other = (k.within.0, k.within.1);
  }
  paired (Ok f) (Err n) h k = unread-second k.found
  paired (Err n) g h k = unread-first h.found

-- ---- a bit for each column

pub bits-more : (xs ys : List Cell) (x y : Cell) → length xs ≡ length ys
    → differing_bits (xs ++ (x ∷ [])) (ys ++ (y ∷ [])) ≡ differing_bits xs ys ++ (flag_bit (not (same_cell x y)) ∷ [])
unfolding differing_bits
bits-more [] [] x y h = refl
bits-more [] (v ∷ ys) x y h = absurd (omega arith)
bits-more (u ∷ xs) [] x y h = absurd (omega arith)
bits-more (u ∷ xs) (v ∷ ys) x y h = ap (λ (bs : List ℕ). flag_bit (not (same_cell u v)) ∷ bs) (bits-more xs ys x y (omega arith))

-- the cells so far, as many of the one as of the other, and the word whose digits say which differ
pub record Differing (xs ys : List Cell) (i word : ℕ) : Type 0 where
  pub alike : length xs ≡ length ys
  pub bits : to_digits 2 i word ≡ differing_bits xs ys

pub differing-none : Differing [] [] 0 0
unfolding differing_bits to_digits
differing-none = record { alike = refl; bits = refl }

pub differing-more : (xs ys : List Cell) (i word : ℕ) → Differing xs ys i word → (x y : Cell) (same : Bool) (next : ℕ) → same ≡ same_cell x y
    → to_digits 2 (i + 1) next ≡ to_digits 2 i word ++ (flag_bit (not same) ∷ []) → Differing (xs ++ (x ∷ [])) (ys ++ (y ∷ [])) (i + 1) next
differing-more xs ys i word d x y same next e h = record {
  alike = omega (arith, d.alike, length-append xs (x ∷ []), length-append ys (y ∷ []));
  bits = h ∙ rw (d.bits, e) (sym (bits-more xs ys x y d.alike));
}

-- ---- a row of each

module _ (from kind : Rows) (cols : List Column) (fs gs : List Bool) (s t : List ℕ) (body behind : ℕ) where
  -- a cell that does not read
  pub unread-cells : (i : ℕ) (d e : Result ℕ (Cell × List ℕ)) → OneUnread d e
      → ((n : ℕ) → d ≡ bad n → read_cells from cols fs 0 (drop body s) ≡ bad (at i n))
      → ((n : ℕ) → e ≡ bad n → read_cells kind cols gs 0 (drop behind t) ≡ bad (at i n))
      → OneUnread (cells_end from cols fs (drop body s)) (cells_end kind cols gs (drop behind t))
  unread-cells i d e (unread-first {x = n} q) f g = unread-first (cells-stopped from cols fs s body _ (f n q))
  unread-cells i d e (unread-second {x = n} q) f g = unread-second (cells-stopped kind cols gs t behind _ (g n q))

  -- all cells are read
  module _ (count : ℕ) (xs ys : List Cell) (place other : ℕ) (h : read_cells from cols fs 0 (drop body s) ≡ good (xs, drop place s))
      (k : read_cells kind cols gs 0 (drop behind t) ≡ good (ys, drop other t)) (onward : body ≤ place) (onward-other : behind ≤ other) where
    pub cells-paired : (word : ℕ) (r : Option RowPair) → Differing xs ys count word → EndsRows from s place kind t other word r
        → PairsRow (cells_end from cols fs (drop body s)) s body (cells_end kind cols gs (drop behind t)) t behind count r
    unfolding cells_end
    cells-paired word (Some p) d (we, e, f, lo, hi, lo-other, hi-other) = record {
      xs = xs;
      ys = ys;
      found = rw (h, e);
      found-other = rw (k, f);
      shows = rw we d.bits;
      within = (omega (arith, onward, lo), hi);
      within-other = (omega (arith, onward-other, lo-other), hi-other);
    }
    cells-paired word None d (unread-first {x = n} q) = unread-first {x = at (length cols) n} (rw (h, q))
    cells-paired word None d (unread-second {x = n} q) = unread-second {x = at (length cols) n} (rw (k, q))

-- both rows have begun: their cells, and what ends them
module _ (from kind : Rows) (cols : List Column) (fs gs : List Bool) (s t : List ℕ) (place other body behind : ℕ) (are : Within cols)
    (e : read_row from cols (drop place s) ≡ cells_end from cols fs (drop body s)) (f : read_row kind cols (drop other t) ≡ cells_end kind cols gs (drop behind t)) (count : ℕ) where
  pub row-paired : (r : Option RowPair) → PairsRow (cells_end from cols fs (drop body s)) s body (cells_end kind cols gs (drop behind t)) t behind count r
      → PairsRow (read_row from cols (drop place s)) s (suc place) (read_row kind cols (drop other t)) t (suc other) count r
  row-paired (Some p) h = record {
    xs = h.xs;
    ys = h.ys;
    found = e ∙ h.found;
    found-other = f ∙ h.found-other;
    shows = h.shows;
    within = (row-onward from cols s place p.next h.xs are (e ∙ h.found) h.within.1, h.within.1);
    within-other = (row-onward kind cols t other p.other h.ys are (f ∙ h.found-other) h.within-other.1, h.within-other.1);
  }
  row-paired None (unread-first q) = unread-first (e ∙ q)
  row-paired None (unread-second q) = unread-second (f ∙ q)
