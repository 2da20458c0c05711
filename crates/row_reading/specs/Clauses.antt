-- What the functions that read rows promise: each case of an answer as the definitions have it.
use Rattle.std.specs.Prelude.{Result as Returned, Ok, Err, ◌≤◌, suc, ℕ, Bool, List, [], map, ◌≡◌, drop, length}
use Rattle.number.specs.Number.{to_digits}
use Rattle.row_reading.specs.declared.Begin.{Begin}
use Rattle.rows.specs.Stream.{is_set, passed, read, read_cells, read_end, read_start}
use Rattle.table.specs.Cell.{Cell}
use Rattle.table.specs.Outcome.{Refusal, at}
use Rattle.table.specs.Reasons.{number_of, refusal_of}
use Rattle.table.specs.Result.{Result, ◌>>=◌, bad, good, refused_as}
use Rattle.table.specs.declared.Reason.{Reason}
use Rattle.table.specs.declared.Refused.{Refused}
use Rattle.table.specs.declared.Column.{Column}
use Rattle.table.specs.declared.Rows.{Rows}
use Rattle.table.specs.declared.Rows.TheVariants.{Binary, Binary2, TableData}

-- ---- what begins and ends a row

-- the flags of a row as a word: its digits in base 2, the first column's the highest; only BINARY2 has any
unfoldable pub flags_in : Rows → ℕ → ℕ → List Bool
flags_in TableData count word = []
flags_in Binary count word = []
flags_in Binary2 count word = map is_set (to_digits 2 count word)

abbrev pub begin_as : Rows → ℕ → List ℕ → Returned Begin Reason → Result ℕ (List Bool × List ℕ)
begin_as from count s (Ok b) = good (flags_in from count b.flags, drop b.cells s)
begin_as from count s (Err e) = bad (number_of e)

abbrev pub BeginWithin : List ℕ → ℕ → Returned Begin Reason → Type 0
BeginWithin s place (Ok b) = (place ≤ b.cells) × (b.cells ≤ length s)
BeginWithin s place (Err e) = Unit {0}

pub record Begins (from : Rows) (count : ℕ) (s : List ℕ) (place : ℕ) (r : Returned Begin Reason) : Type 0 where
  pub begun : read_start from count (drop place s) ≡ begin_as from count s r
  pub within : BeginWithin s place r

abbrev pub close_as : List ℕ → Returned ℕ Reason → Result ℕ (List ℕ)
close_as s (Ok next) = good (drop next s)
close_as s (Err e) = bad (number_of e)

abbrev pub CloseWithin : List ℕ → ℕ → Returned ℕ Reason → Type 0
CloseWithin s place (Ok next) = (place ≤ next) × (next ≤ length s)
CloseWithin s place (Err e) = Unit {0}

pub record Closes (from : Rows) (s : List ℕ) (place : ℕ) (r : Returned ℕ Reason) : Type 0 where
  pub closed : read_end from (drop place s) ≡ close_as s r
  pub within : CloseWithin s place r

-- ---- what is passed over: it reads, and where it ends; or its refusal

abbrev pub PassesCell : Result ℕ (Cell × List ℕ) → List ℕ → ℕ → Returned ℕ Reason → Type 0
PassesCell definition s place (Ok next) = (x : Cell) × (definition ≡ good (x, drop next s)) × (place ≤ next) × (next ≤ length s)
PassesCell definition s place (Err e) = definition ≡ bad (number_of e)

-- the cells of a row and what ends it, from where its cells begin
unfoldable pub cells_end : Rows → List Column → List Bool → List ℕ → Result Refusal (List Cell × List ℕ)
cells_end from cs flags s = read_cells from cs flags 0 s >>= λ p. refused_as (at (length cs)) (read_end from p.1) >>= λ rest. good (p.0, rest)

abbrev pub PassesCells : Result Refusal (List Cell × List ℕ) → List ℕ → ℕ → Returned ℕ Refused → Type 0
PassesCells definition s place (Ok next) = (xs : List Cell) × (definition ≡ good (xs, drop next s)) × (place ≤ next) × (next ≤ length s)
PassesCells definition s place (Err f) = definition ≡ bad (refusal_of f)

-- a row takes at least a byte
abbrev pub PassesRow : Result Refusal (List Cell × List ℕ) → List ℕ → ℕ → Returned ℕ Refused → Type 0
PassesRow definition s place r = PassesCells definition s (suc place) r

-- rows passed over from a start, behind so many before it: a place, behind so many; the count from the start on is the count of going on from there
pub record RowsPassed (from : Rows) (cols : List Column) (s : List ℕ) (start before place rows : ℕ) : Type 0 where
  pub inside : place ≤ length s
  pub fewer : rows ≤ place
  pub ahead : passed before (read from cols (drop start s)) ≡ passed rows (read from cols (drop place s))
