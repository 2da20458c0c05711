-- Cells are the same exactly where they are equal; so nothing differs between two lists of rows exactly where they are one list, and the places that
-- differ are the same from either side. By induction along the rows, each step one cell. And a row that is read has one cell to a column.
use Prim.Native.Nat.{◌+◌, suc, ℕ}
use native.Mathlib.Omega.{arith}
use mathlib.Core.Bool.{Bool, cond, false, false≢true, true}
use mathlib.Core.List.{List, [], ◌++◌, ◌∷◌}
use mathlib.Core.Path.{◌∙◌, ◌≡◌, ap, ap₂, refl, sym}
use lib.IntN.{ℤ}
use lib.ListN.{length, length-append}
use Rattle.compare.specs.Compare.{cell_differs, differences, row_differs, same_cell, same_elements}
use Rattle.rows.proofs.Sequences.{AllRows, sequence-all}
use Rattle.rows.specs.Stream.{at_end, flag, flags_left, read, read_cell, read_cells, read_end, read_row, read_start}
use Rattle.table.proofs.Laws.{and_both, holds-any, holds-bind, same_self, same_true}
use Rattle.table.specs.All.{All}
use Rattle.table.specs.Cell.{Cell, null, same_integer, shown}
use Rattle.table.specs.Outcome.{at}
use Rattle.table.specs.Result.{Holds, holds, refused_as}
use Rattle.table.specs.declared.Column.{Column}
use Rattle.table.specs.declared.Rows.{Rows}

-- ---- cells

pub elements-self : (es : List ℤ) → same_elements es es ≡ true
unfolding same_elements
elements-self [] = refl
elements-self (e ∷ es) = rw (same_self e, elements-self es)

pub elements-true : (es fs : List ℤ) → same_elements es fs ≡ true → es ≡ fs
unfolding same_elements
elements-true [] [] h = refl
elements-true [] (f ∷ fs) h = absurd (false≢true h)
elements-true (e ∷ es) [] h = absurd (false≢true h)
elements-true (e ∷ es) (f ∷ fs) h =
    let b = and_both (same_integer e f) (same_elements es fs) h in
    ap₂ (λ (x : ℤ) (xs : List ℤ). x ∷ xs) (same_true e f b.0) (elements-true es fs b.1)

pub cell_self : (x : Cell) → same_cell x x ≡ true
unfolding same_cell
cell_self null = refl
cell_self (shown es) = elements-self es

-- "Empty and null differ": what is the same is equal
pub cell-true : (x y : Cell) → same_cell x y ≡ true → x ≡ y
unfolding same_cell
cell-true null null h = refl
cell-true null (shown fs) h = absurd (false≢true h)
cell-true (shown es) null h = absurd (false≢true h)
cell-true (shown es) (shown fs) h = ap shown (elements-true es fs h)

pub cell-false : (x y : Cell) → (x ≡ y → ⊥) → same_cell x y ≡ false
cell-false x y n = go (same_cell x y) refl
  where
    go : (b : Bool) → same_cell x y ≡ b → b ≡ false
    go true e = absurd (n (cell-true x y e))
    go false e = refl

pub cell_other : (x y : Cell) → same_cell x y ≡ false → x ≡ y → ⊥
cell_other x y f e = false≢true (sym f ∙ ap (same_cell x) (sym e) ∙ cell_self x)

-- from either side
pub cell-turned : (x y : Cell) → same_cell x y ≡ same_cell y x
cell-turned x y = go (same_cell x y) refl
  where
    go : (b : Bool) → same_cell x y ≡ b → b ≡ same_cell y x
    go true e = rw (cell-true x y e) (sym (cell_self y))
    go false e = sym (cell-false y x (λ q. cell_other x y e (sym q)))

-- ---- from either side the same places differ

pub row-turned : (r k : ℕ) (xs ys : List Cell) → row_differs r k xs ys ≡ row_differs r k ys xs
unfolding row_differs cell_differs
row-turned r k [] [] = refl
row-turned r k [] (y ∷ ys) = refl
row-turned r k (x ∷ xs) [] = refl
row-turned r k (x ∷ xs) (y ∷ ys) = rw (cell-turned x y, row-turned r (k + 1) xs ys)

pub differences-turned : (r : ℕ) (first second : List (List Cell)) → differences r first second ≡ differences r second first
unfolding differences
differences-turned r [] [] = refl
differences-turned r [] (ys ∷ second) = refl
differences-turned r (xs ∷ first) [] = refl
differences-turned r (xs ∷ first) (ys ∷ second) = rw (row-turned r 0 xs ys, differences-turned (r + 1) first second)

-- ---- nothing differs exactly where the rows are the same

pub row-self : (r k : ℕ) (xs : List Cell) → row_differs r k xs xs ≡ []
unfolding row_differs cell_differs
row-self r k [] = refl
row-self r k (x ∷ xs) = rw (cell_self x, row-self r (k + 1) xs)

pub differences-self : (r : ℕ) (rows : List (List Cell)) → differences r rows rows ≡ []
unfolding differences
differences-self r [] = refl
differences-self r (xs ∷ rows) = rw (row-self r 0 xs, differences-self (r + 1) rows)

row_same : (r k : ℕ) (xs ys : List Cell) → length xs ≡ length ys → length (row_differs r k xs ys) ≡ 0 → xs ≡ ys
unfolding row_differs cell_differs
row_same r k [] [] l h = refl
row_same r k [] (y ∷ ys) l h = absurd (omega arith)
row_same r k (x ∷ xs) [] l h = absurd (omega arith)
row_same r k (x ∷ xs) (y ∷ ys) l h = go (same_cell x y) refl h (row_same r (k + 1) xs ys (omega arith))
  where
    go : (b : Bool) → same_cell x y ≡ b → length (cond b [] (record { row = r; column = k } ∷ []) ++ row_differs r (k + 1) xs ys) ≡ 0
        → (length (row_differs r (k + 1) xs ys) ≡ 0 → xs ≡ ys) → x ∷ xs ≡ y ∷ ys
    go true e h more = ap₂ (λ (z : Cell) (zs : List Cell). z ∷ zs) (cell-true x y e) (more h)
    go false e h more = absurd (omega arith)

pub differences-none : (n r : ℕ) (first second : List (List Cell)) → All (λ (xs : List Cell). length xs ≡ n) first → All (λ (xs : List Cell). length xs ≡ n) second
    → length first ≡ length second → length (differences r first second) ≡ 0 → first ≡ second
unfolding differences
differences-none n r [] [] a b l h = refl
differences-none n r [] (ys ∷ second) a b l h = absurd (omega arith)
differences-none n r (xs ∷ first) [] a b l h = absurd (omega arith)
differences-none n r (xs ∷ first) (ys ∷ second) a b l h =
    let both = length-append (row_differs r 0 xs ys) (differences (r + 1) first second) in
    ap₂ (λ (z : List Cell) (zs : List (List Cell)). z ∷ zs) (row_same r 0 xs ys (a.0 ∙ sym b.0) (omega (arith, h, both)))
    (differences-none n (r + 1) first second a.1 b.1 (omega arith) (omega (arith, h, both)))

-- ---- a row that is read has one cell to a column

cells-long : (from : Rows) (cs : List Column) (fs : List Bool) (k : ℕ) (s : List ℕ) → Holds (λ (p : List Cell × List ℕ). length p.0 ≡ length cs) (read_cells from cs fs k s)
unfolding read_cells
cells-long from [] fs k s = holds refl
cells-long from (c ∷ cs) fs k s =
    holds-bind (holds-any (refused_as (at k) (read_cell from c (flag fs) s))) (λ x _.
    holds-bind (cells-long from cs (flags_left fs) (k + 1) x.1) (λ xs h. holds (ap suc h)))

row-long : (from : Rows) (cs : List Column) (s : List ℕ) → Holds (λ (p : List Cell × List ℕ). (length p.0 ≡ length cs) × Unit {0}) (read_row from cs s)
unfolding read_row
row-long from cs s =
    holds-bind (holds-any (refused_as (at 0) (read_start from (length cs) s))) (λ p _.
    holds-bind (cells-long from cs p.0 0 p.1) (λ x h. holds-bind (holds-any (refused_as (at (length cs)) (read_end from x.1))) (λ t _. holds (h, tt))))

pub rows_long : (from : Rows) (cs : List Column) (s : List ℕ) → AllRows (λ (xs : List Cell). length xs ≡ length cs) (read from cs s)
unfolding read
rows_long from cs s = sequence-all (at_end from) (read_row from cs) (λ xs. length xs ≡ length cs) (λ s. Unit {0}) (λ s _. row-long from cs s) s tt
