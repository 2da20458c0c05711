-- What the functions of the index promise: an entry in the buffer.
use Rattle.std.specs.Prelude.{◌%◌, ◌/◌, ℕ, Bool, cond, true, List, eqb, ltb, length, set}
use Rattle.index.specs.Index.{spacing}

-- a row that has an entry has a place for it
abbrev pub has_place : ℕ → List ℕ → Bool
has_place row index = cond (eqb (row % spacing) 0) (ltb (row / spacing) (length index)) true

-- the buffer with the row's entry, where it has one and there is a place for it
abbrev pub entered_at : ℕ → ℕ → List ℕ → List ℕ
entered_at row start index = cond (eqb (row % spacing) 0) (set index (row / spacing) start) index
