-- The columns of a list: by index, and one after the other.
use Prim.Native.Nat.{◌+◌, ◌-◌, ◌<◌, ◌≤◌, suc, zero, ℕ}
use native.Mathlib.Nat.{add-zero, zero-add}
use native.Mathlib.Omega.{arith}
use mathlib.Core.List.{List, ◌∷◌}
use mathlib.Core.Path.{◌∙◌, ◌≡◌, ap, refl}
use lib.ListN.{drop, get_or, length, length-append, replicate, take}
use lib.Seq.{drop-cons, take-append_seam}
use Rattle.table.specs.ColumnList.{columns_from, holding, listed, no_column}
use Rattle.table.specs.declared.Column.{Column}
use Rattle.table.specs.declared.Columns.{Columns}

columns-take : (l : List Column) (k n : ℕ) → k + n ≤ length l → columns_from l k n ≡ take n (drop k l)
unfolding columns_from
columns-take l k zero h = refl
columns-take l k (suc n) h = rw (drop-cons l k no_column (omega arith)) (ap (λ (cs : List Column). get_or l k no_column ∷ cs) (columns-take l (suc k) n (omega arith)))

columns-length : (l : List Column) (k n : ℕ) → length (columns_from l k n) ≡ n
unfolding columns_from
columns-length l k zero = refl
columns-length l k (suc n) = ap suc (columns-length l (suc k) n)

columns-at : (l : List Column) (k n i : ℕ) → i < n → get_or (columns_from l k n) i no_column ≡ get_or l (k + i) no_column
unfolding columns_from
columns-at l k zero i h = absurd (omega arith)
columns-at l k (suc n) zero h = rw add-zero
columns-at l k (suc n) (suc i) h =
    let e : suc k + i ≡ k + suc i = omega arith in columns-at l (suc k) n i (omega arith) ∙ ap (λ (j : ℕ). get_or l j no_column) e

pub listed-length : (cols : Columns) → length (listed cols) ≡ cols.count
unfolding listed
listed-length cols = columns-length cols.list 0 cols.count

listed_at : (cols : Columns) (i : ℕ) → i < cols.count → get_or (listed cols) i no_column ≡ get_or cols.list i no_column
unfolding listed
listed_at cols i h = columns-at cols.list 0 cols.count i h ∙ rw zero-add

-- the columns from the i-th on, for a loop over them
pub listed_next : (cols : Columns) (i : ℕ) → i < cols.count → drop i (listed cols) ≡ get_or cols.list i no_column ∷ drop (suc i) (listed cols)
listed_next cols i h = drop-cons (listed cols) i no_column (omega (arith, listed-length cols)) ∙ rw (listed_at cols i h)

pub listed-holding : (cs : List Column) → listed (holding cs) ≡ cs
unfolding listed
listed-holding cs =
    columns-take (holding cs).list 0 (length cs) (simp length-append (omega arith)) ∙ take-append_seam cs (replicate (64 - length cs) no_column)
