-- What is held is taken back: the cells that were read, each within its column's bound, and written as they are.
use Prim.Native.Nat.{◌+◌, ◌-◌, ◌<◌, ◌≤◌, ℕ}
use native.Mathlib.Nat.{add-zero}
use native.Mathlib.Omega.{arith}
use mathlib.Core.Bool.{Bool, false, true}
use mathlib.Core.List.{List, [], ◌++◌, ◌∷◌, append_assoc, append-nil}
use mathlib.Core.Path.{◌∙◌, ◌≡◌, ap, ap₂, refl, subst, sym}
use lib.Dec.{ltb}
use lib.IntN.{negsuc, pos, ℤ}
use lib.ListN.{drop, drop_of_length-le, length, length-append, length-drop, take}
use lib.Seq.{drop-append_seam, drop-drop, take-append_seam, take-length}
use borrow.Author.Tests.{ltb-false, ltb-true}
use Rattle.row_writing.proofs.RowForm.{form-bytes, joined, placed}
use Rattle.row_writing.specs.Clauses.{FewIn, HeldAt, HeldIs, HeldWithin, cell_form, held_cell, held_next, rest_of, row_form}
use Rattle.rows.specs.Stream.{flag, flags_left, write_cell, write_cells}
use Rattle.table.specs.Cell.{Cell, bound, null, shown}
use Rattle.table.specs.Clauses.{ShownUpTo, ShownWithin, shown_as}
use Rattle.table.specs.Outcome.{at}
use Rattle.std.specs.Prelude.{None, Option, Some, unwrap_or}
use Rattle.table.specs.Result.{good, refused_as}
use Rattle.table.specs.declared.Column.{Column}
use Rattle.table.specs.declared.Rows.{Rows}

-- what is held of cells, one behind the other
abbrev pub held_row : List Cell → List ℤ
held_row [] = []
held_row (x ∷ xs) = held_cell x ++ held_row xs

pub held-row-more : (xs : List Cell) (x : Cell) → held_row xs ++ held_cell x ≡ held_row (xs ++ (x ∷ []))
held-row-more [] x = sym (append-nil (held_cell x))
held-row-more (y ∷ xs) x = append_assoc (held_cell y) (held_row xs) (held_cell x) ∙ ap (λ (l : List ℤ). held_cell y ++ l) (held-row-more xs x)

-- cells within the bounds of their columns
abbrev pub FewCells : List Column → List Cell → Type 0
FewCells cs [] = Unit {0}
FewCells [] (x ∷ xs) = ⊥
FewCells (c ∷ cs) (x ∷ xs) = FewIn c x × FewCells cs xs

pub held_next_lem : (c : Column) (f : Bool) (x : Cell) (l : List ℤ) → held_next c f (held_cell x ++ l) ≡ good (x, l)
unfolding held_next held_cell
held_next_lem c f null l = refl
held_next_lem c f (shown es) l = rw (take-append_seam es l, drop-append_seam es l)

-- the first cell that is held, and the others
held_first : (x : Cell) (xs : List Cell) (rest : List ℤ) → held_row (x ∷ xs) ++ rest ≡ held_cell x ++ (held_row xs ++ rest)
held_first x xs rest = append_assoc (held_cell x) (held_row xs) rest

pub held-form : (to : Rows) (cs : List Column) (xs : List Cell) (rest : List ℤ) (j : ℕ) (b : List ℕ) → length xs ≡ length cs → write_cells to cs xs j ≡ good b
    → row_form held_next to cs [] (held_row xs ++ rest) ≡ b
unfolding write_cells row_form flags_left cell_form rest_of
held-form to [] xs rest j b n w = cc
held-form to (c ∷ cs) [] rest j b n w = absurd (omega arith)
held-form to (c ∷ cs) (x ∷ xs) rest j b n w =
    let d : (y : List ℕ) × (z : List ℕ) × (refused_as (at j) (write_cell to c x) ≡ good y) × (write_cells to cs xs (j + 1) ≡ good z) × (y ++ z ≡ b)
    = joined (refused_as (at j) (write_cell to c x)) (write_cells to cs xs (j + 1)) b w in
    let k : write_cell to c x ≡ good d.0 = placed j (write_cell to c x) d.0 d.2 in
    rw (held_first x xs rest, held_next_lem c (flag []) x (held_row xs ++ rest))
    (ap₂ ◌++◌ (form-bytes to c x d.0 k) (held-form to cs xs rest (j + 1) d.1 (omega arith) d.3) ∙ d.4)

held_at : (c : Column) (x : Cell) (l : List ℤ) → FewIn c x → HeldAt c (held_cell x ++ l)
unfolding held_cell
held_at c null l f = tt
held_at c (shown es) l f = (f, omega (arith, length-append es l))

pub held-within : (cs : List Column) (xs : List Cell) (rest : List ℤ) → length xs ≡ length cs → FewCells cs xs → HeldWithin cs (held_row xs ++ rest)
unfolding rest_of
held-within [] xs rest n f = tt
held-within (c ∷ cs) [] rest n f = absurd (omega arith)
held-within (c ∷ cs) (x ∷ xs) rest n f =
    rw (held_first x xs rest)
    (held_at c x (held_row xs ++ rest) f.0, rw (held_next_lem c false x (held_row xs ++ rest)) (held-within cs xs rest (omega arith) f.1))

-- ---- a cell at a place of the scratch

pub held-inside : (c : Column) (l : List ℤ) (place : ℕ) → HeldAt c (drop place l) → place < length l
held-inside c l place h = go (ltb place (length l)) refl
  where
    go : (t : Bool) → ltb place (length l) ≡ t → place < length l
    go true q = ltb-true place (length l) q
    go false q = absurd (subst (HeldAt c) (drop_of_length-le l (ltb-false place (length l) q)) h)

pub next-held : (c : Column) (l : List ℤ) (place : ℕ) (o : Option ℕ) → HeldIs l place o
    → held_next c false (drop place l) ≡ good (shown_as (drop (place + 1) l) o, drop (place + 1 + unwrap_or o 0) l)
unfolding held_next
next-held c l place None h = rw (h.1, add-zero)
next-held c l place (Some n) e = rw e (ap (λ (m : List ℤ). good (shown (take n (drop (place + 1) l)), m)) (drop-drop n (place + 1) l))

pub shown-within : (c : Column) (l : List ℤ) (place : ℕ) (o : Option ℕ) → HeldIs l place o → HeldAt c (drop place l) → ShownUpTo (bound c.len) o × ShownWithin (drop (place + 1) l) o
shown-within c l place None e h = (tt, tt)
shown-within c l place (Some n) e h = subst (HeldAt c) e h

-- what is behind the cell is inside
pub shown-inside : (l : List ℤ) (o : Option ℕ) → ShownWithin l o → unwrap_or o 0 ≤ length l
shown-inside l None h = omega arith
shown-inside l (Some n) h = h

-- a part that goes to the end
pub part-all : (first : ℕ) (l : List ℤ) → take (length l - first) (drop first l) ≡ drop first l
part-all first l = ap (λ (n : ℕ). take n (drop first l)) (sym (length-drop first l)) ∙ take-length (drop first l)
