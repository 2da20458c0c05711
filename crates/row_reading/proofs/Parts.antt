-- A row by its parts: what begins it, its cells one by one, what ends it. While its cells are read (RowRead), what is read of the row is what has
-- been read and what is still to come. Cited by pass_cells and pass_row here, and by the converter.
use Prim.Native.Nat.{◌+◌, ◌<◌, ◌≤◌, suc, zero, ℕ}
use native.Mathlib.Numerals.{add-one}
use native.Mathlib.Omega.{arith}
use mathlib.Core.Bool.{Bool}
use mathlib.Core.List.{List, [], ◌++◌, ◌∷◌, append_assoc, append-nil}
use mathlib.Core.Path.{◌∙◌, ◌≡◌, ap, refl, subst}
use lib.IntN.{ℤ}
use lib.ListN.{drop, drop_of_length-le, get_or, length, length-drop, take}
use Rattle.table.proofs.ColumnList.{listed_next}
use Rattle.table.specs.ColumnList.{listed, no_column}
use Rattle.row_reading.specs.Clauses.{BeginWithin, Begins, CloseWithin, Closes, PassesCell, PassesCells, PassesRow, cells_end, flags_in}
use Rattle.row_reading.specs.declared.Begin.{Begin}
use Rattle.rows.proofs.Laws.{cell_then, push, within-less}
use Rattle.rows.specs.Bounds.{Bounded, Within}
use Rattle.rows.specs.Stream.{flag, flags_left, read_cell, read_cells, read_row}
use Rattle.table.proofs.Laws.{all_drop, holds_at}
use Rattle.table.specs.All.{All}
use Rattle.table.specs.Cell.{Cell, bound, most_elements, null, shown}
use Rattle.table.specs.Clauses.{Reads, shown_as}
use Rattle.table.specs.Reasons.{number_of}
use Rattle.table.specs.declared.Reason.{Reason}
use Rattle.table.specs.declared.Refused.{Refused}
use Rattle.std.specs.Prelude.{Err, Ok, Result as Returned}
use Rattle.table.specs.Outcome.{Refusal, at}
use Rattle.table.specs.Result.{Result, ◌>>=◌, bad, good}
use Rattle.table.specs.declared.Column.{Column}
use Rattle.table.specs.declared.Columns.{Columns}
use Rattle.table.specs.declared.Found.{Found}
use Rattle.table.specs.declared.Rows.{Rows}

-- ---- the columns that are declared

pub listed-bound : (cols : Columns) (i : ℕ) → Within (listed cols) → i < cols.count → bound (get_or cols.list i no_column).len ≤ most_elements
listed-bound cols i a h =
    let d : All Bounded (drop i (listed cols)) = all_drop Bounded i (listed cols) a.each in
    (subst (All Bounded) (listed_next cols i h) d).0.1

-- ---- a cell that was found is passed over

module _ (definition : Result ℕ (Cell × List ℕ)) (s : List ℕ) (place : ℕ) (entry exit : List ℤ) where
  pub refused-cell : (e : Reason) → Reads definition s place entry exit (Err e) → PassesCell definition s place (Err e)
  refused-cell e h = h.found

  pub found-cell : (f : Found) → Reads definition s place entry exit (Ok f) → PassesCell definition s place (Ok f.next)
  found-cell f h = (shown_as exit f.shown, h.found, h.within.0, h.within.1)

-- ---- flags

pub flags-next : (i : ℕ) (fs : List Bool) → flags_left (drop i fs) ≡ drop (suc i) fs
unfolding flags_left
flags-next zero [] = refl
flags-next zero (f ∷ fs) = refl
flags-next (suc i) [] = refl
flags-next (suc i) (f ∷ fs) = flags-next i fs

-- ---- cells that are read

-- cells in front of what is read
abbrev pub in_front : List Cell → Result Refusal (List Cell × List ℕ) → Result Refusal (List Cell × List ℕ)
in_front acc r = r >>= λ p. good (acc ++ p.0, p.1)

pub front-nil : (x : Result Refusal (List Cell × List ℕ)) → x ≡ in_front [] x
front-nil (good p) = refl
front-nil (bad e) = refl

pub front-more : (acc : List Cell) (x : Cell) (r : Result Refusal (List Cell × List ℕ)) → in_front acc (push x r) ≡ in_front (acc ++ (x ∷ [])) r
front-more acc x (good p) = rw append_assoc
front-more acc x (bad e) = refl

-- the cells of the columns before i are read: they are acc, and the next begins at `place`
pub record RowRead (from : Rows) (cols : List Column) (fs : List Bool) (s : List ℕ) (body place i : ℕ) : Type 0 where
  pub upto : i ≤ length cols
  pub onward : body ≤ place
  pub inside : place ≤ length s
  pub acc : List Cell
  pub ahead : read_cells from cols fs 0 (drop body s) ≡ in_front acc (read_cells from (drop i cols) (drop i fs) i (drop place s))

module _ (from : Rows) (cols : List Column) (fs : List Bool) (s : List ℕ) (body : ℕ) where
  unfoldable pub read-start : body ≤ length s → RowRead from cols fs s body body 0
  read-start h = record { upto = omega arith; onward = omega arith; inside = h; acc = []; ahead = front-nil (read_cells from cols fs 0 (drop body s)) }

  -- the cells from column i on, where that column is c
  unroll : (c : Column) (i : ℕ) (t : List ℕ) → drop i cols ≡ c ∷ drop (suc i) cols
      → read_cells from (drop i cols) (drop i fs) i t ≡ cell_then i (read_cell from c (flag (drop i fs)) t) (λ u. read_cells from (drop (suc i) cols) (drop (suc i) fs) (i + 1) u)
  unfolding read_cells
  unroll c i t e = rw (e, flags-next i fs)

  module _ (place i : ℕ) (inv : RowRead from cols fs s body place i) (c : Column) (e : drop i cols ≡ c ∷ drop (suc i) cols) (f : Bool) (fe : f ≡ flag (drop i fs)) where
    pub turned : read_cells from cols fs 0 (drop body s) ≡ in_front inv.acc (cell_then i (read_cell from c f (drop place s)) (λ u. read_cells from (drop (suc i) cols) (drop (suc i) fs) (i + 1) u))
    turned = rw fe (inv.ahead ∙ ap (in_front inv.acc) (unroll c i (drop place s) e))

    pub read-stop : (n : ℕ) → read_cell from c f (drop place s) ≡ bad n → read_cells from cols fs 0 (drop body s) ≡ bad (at i n)
    read-stop n h = turned ∙ rw h

    unfoldable pub read_more : (x : Cell) (next : ℕ) → i < length cols → read_cell from c f (drop place s) ≡ good (x, drop next s) → place ≤ next → next ≤ length s
        → RowRead from cols fs s body next (i + 1)
    read_more x next more h lo hi =
        let dc : drop (i + 1) cols ≡ drop (suc i) cols = rw add-one in
        let df : drop (i + 1) fs ≡ drop (suc i) fs = rw add-one in
        record {
          upto = omega arith;
          onward = omega (arith, inv.onward);
          inside = hi;
          acc = inv.acc ++ (x ∷ []);
          ahead = turned ∙ rw h (front-more inv.acc x (read_cells from (drop (suc i) cols) (drop (suc i) fs) (i + 1) (drop next s)) ∙ rw (dc, df));
        }

  -- all columns are read
  pub read-end : (place i : ℕ) (inv : RowRead from cols fs s body place i) → length cols ≤ i → read_cells from cols fs 0 (drop body s) ≡ good (inv.acc, drop place s)
  unfolding read_cells
  read-end place i inv end =
      let e : drop i cols ≡ [] = drop_of_length-le cols end in
      inv.ahead ∙ rw (e, append-nil)

-- ---- a row

module _ (from : Rows) (cols : List Column) (fs : List Bool) (s : List ℕ) (body : ℕ) where
  pub cells-stopped : (x : Refusal) → read_cells from cols fs 0 (drop body s) ≡ bad x → cells_end from cols fs (drop body s) ≡ bad x
  unfolding cells_end
  cells-stopped x q = rw q

  module _ (xs : List Cell) (last : ℕ) (q : read_cells from cols fs 0 (drop body s) ≡ good (xs, drop last s)) (z : Returned ℕ Reason) (h : Closes from s last z) where
    pub cells_open : (e : Reason) → z ≡ Err e → cells_end from cols fs (drop body s) ≡ bad (at (length cols) (number_of e))
    unfolding cells_end
    cells_open e k = rw (q, h.closed, k)

    pub cells-closed : (next : ℕ) → z ≡ Ok next → cells_end from cols fs (drop body s) ≡ good (xs, drop next s)
    unfolding cells_end
    cells-closed next k = rw (q, h.closed, k)

pub closed-within : (from : Rows) (s : List ℕ) (last : ℕ) (z : Returned ℕ Reason) → Closes from s last z → (next : ℕ) → z ≡ Ok next → (last ≤ next) × (next ≤ length s)
closed-within from s last z h next k = subst (CloseWithin s last) k h.within

-- a row moves on
pub row-onward : (from : Rows) (cols : List Column) (s : List ℕ) (place next : ℕ) (xs : List Cell) → Within cols → read_row from cols (drop place s) ≡ good (xs, drop next s)
    → next ≤ length s → place < next
row-onward from cols s place next xs a e h =
    let k : length (drop next s) < length (drop place s) = holds_at (within-less from cols (drop place s) a) e in
    omega (arith, length-drop next s, length-drop place s)

module _ (from : Rows) (cols : List Column) (count : ℕ) (l : length cols ≡ count) (s : List ℕ) (place : ℕ) (b : Returned Begin Reason) (g : Begins from count s place b) where
  pub row-unbegun : (e : Reason) → b ≡ Err e → read_row from cols (drop place s) ≡ bad (at 0 (number_of e))
  unfolding read_row
  row-unbegun e h = rw (l, g.begun, h)

  module _ (x : Begin) (e : b ≡ Ok x) where
    pub row-begun : read_row from cols (drop place s) ≡ cells_end from cols (flags_in from count x.flags) (drop x.cells s)
    unfolding read_row cells_end
    row-begun = rw (l, g.begun, e)

    pub begun-within : (place ≤ x.cells) × (x.cells ≤ length s)
    begun-within = subst (BeginWithin s place) e g.within

    pub row-passed : Within cols → (r : Returned ℕ Refused) → PassesCells (cells_end from cols (flags_in from count x.flags) (drop x.cells s)) s x.cells r → PassesRow (read_row from cols (drop place s)) s place r
    row-passed a (Ok next) h = (h.0, row-begun ∙ h.1, row-onward from cols s place next h.0 a (row-begun ∙ h.1) h.3, h.3)
    row-passed a (Err f) h = row-begun ∙ h
