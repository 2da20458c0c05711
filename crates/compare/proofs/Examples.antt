-- Sentences of 02 that compute.
use mathlib.Core.List.{[], ◌∷◌}
use mathlib.Core.Path.{◌≡◌, refl}
use lib.IntN.{pos}
use Rattle.compare.specs.Compare.{cell_differs, differences, placed, row_differs, same_cell, same_elements}
use Rattle.table.specs.Cell.{null, same_integer, shown}

-- "Empty and null differ": of two rows of three cells
pub empty-and-null : differences 0 ((null ∷ shown [] ∷ shown (pos 3 ∷ []) ∷ []) ∷ []) ((null ∷ null ∷ shown (pos 4 ∷ []) ∷ []) ∷ [])
    ≡ record { row = 0; column = 1 } ∷ record { row = 0; column = 2 } ∷ []
unfolding differences row_differs cell_differs same_cell same_elements same_integer
empty-and-null = refl

-- "each as two 32-bit numbers, as many as fit, the rest untouched": of two places one, in a buffer of three numbers
pub odd-kept : placed (record { row = 4; column = 1 } ∷ record { row = 5; column = 2 } ∷ []) (7 ∷ 8 ∷ 9 ∷ []) ≡ 4 ∷ 1 ∷ 9 ∷ []
unfolding placed
odd-kept = refl

-- "in rows both have": a row that only the first has shows no cell differently
pub only-first : differences 0 ((null ∷ []) ∷ (null ∷ []) ∷ []) ((null ∷ []) ∷ []) ≡ []
unfolding differences row_differs cell_differs same_cell
only-first = refl
