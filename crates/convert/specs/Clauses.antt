-- What the functions of the converter promise: a row while it is measured.
use Rattle.std.specs.Prelude.{Result as Returned, Ok, Err, Option, None, Some, is_none, unwrap_or, ltb, negsuc, pos, ◌*◌, ◌+◌, ◌<◌, ◌≤◌, ℕ, Bool, cond, List, [], ◌++◌, ◌∷◌, ◌≡◌, eqb, leb, ℤ, drop, length, take}
use Rattle.convert.specs.declared.Measured.{Measured}
use Rattle.convert.specs.declared.Turn.{Turn}
use Rattle.binary.specs.Binary.{flag_bit}
use Rattle.number.specs.Number.{to_digits}
use Rattle.row_writing.specs.Clauses.{FewIn, held_cell, most_cell_bytes}
use Rattle.rows.specs.Stream.{write_cell}
use Rattle.table.specs.Cell.{Cell, is_null, most_elements}
use Rattle.table.specs.Clauses.{size_as, size_of}
use Rattle.table.specs.Outcome.{Refusal, at}
use Rattle.table.specs.Reasons.{number_of, refusal_of}
use Rattle.table.specs.declared.Reason.{Reason}
use Rattle.table.specs.declared.Refused.{Refused}
use Rattle.table.specs.Result.{Result, ◌>>=◌, bad, good, refused_as}
use Rattle.table.specs.declared.Column.{Column}
use Rattle.table.specs.declared.Rows.{Rows}

-- ---- what a row will be written as

-- the size so far, or the first refusal in writing
abbrev pub size_or_refusal : ℕ → Option Refused → Result Refusal ℕ
size_or_refusal size None = good size
size_or_refusal size (Some f) = bad (refusal_of f)

abbrev pub measured_as : Measured → Result Refusal ℕ
measured_as m = size_or_refusal m.size m.refused

-- sizes added, or the first refusal
abbrev pub added_to : Result Refusal ℕ → Result Refusal ℕ → Result Refusal ℕ
added_to a b = a >>= λ m. b >>= λ n. good (m + n)

-- ---- the cells of a row, held in the scratch

-- the numbers that the scratch has: cells are held while a cell of any size has room behind them
abbrev pub scratch_length : ℕ
scratch_length = 8192

-- where the next cell is held: behind those that are, while a cell of any size has room there
abbrev pub place_for : Option ℕ → ℕ
place_for None = 0
place_for (Some n) = cond (ltb n most_elements) n 0

-- how much of the scratch holds them with a cell of n elements more, its count before them
abbrev pub held_with : Option ℕ → ℕ → Option ℕ
held_with None n = None
held_with (Some before) n = cond (ltb before most_elements) (Some (before + 1 + n)) None

-- what the scratch holds, where it holds anything
abbrev pub HoldsAs : List ℤ → List ℤ → Option ℕ → Type 0
HoldsAs l cells (Some n) = take n l ≡ cells
HoldsAs l cells None = Unit {0}

-- what stands before a cell's elements: their count, or -1 for null
abbrev pub held_count : Option ℕ → ℤ
held_count None = negsuc 0
held_count (Some n) = pos n

-- ---- one more cell

-- it is column i's, null or of so many elements, and takes so much
pub record GrownBy (i : ℕ) (cell : Option ℕ) (size : Returned ℕ Reason) (m q : Measured) : Type 0 where
  pub nulls : to_digits 2 (i + 1) q.nulls ≡ to_digits 2 i m.nulls ++ (flag_bit (is_none cell) ∷ [])
  pub form : measured_as q ≡ added_to (measured_as m) (refused_as (at i) (size_as size))
  pub short : q.size ≤ most_cell_bytes * (i + 1)
  pub holds : q.held ≡ held_with m.held (unwrap_or cell 0)

-- it is x
pub record Grown (to : Rows) (c : Column) (i : ℕ) (m : Measured) (x : Cell) (entry exit : List ℤ) (q : Measured) : Type 0 where
  pub nulls : to_digits 2 (i + 1) q.nulls ≡ to_digits 2 i m.nulls ++ (flag_bit (is_null x) ∷ [])
  pub form : measured_as q ≡ added_to (measured_as m) (refused_as (at i) (size_of (write_cell to c x)))
  pub short : q.size ≤ most_cell_bytes * (i + 1)
  pub few : FewIn c x
  pub held : (cells : List ℤ) → HoldsAs entry cells m.held → HoldsAs exit (cells ++ held_cell x) q.held

abbrev pub MeasuredBy : Rows → Column → ℕ → Result ℕ (Cell × List ℕ) → List ℕ → ℕ → Measured → List ℤ → List ℤ → Returned Turn Reason → Type 0
MeasuredBy to c i definition s place m entry exit (Ok t) =
    (x : Cell) × (definition ≡ good (x, drop t.next s)) × (place ≤ t.next) × (t.next ≤ length s) × Grown to c i m x entry exit t.measured
MeasuredBy to c i definition s place m entry exit (Err e) = definition ≡ bad (number_of e)
