-- What the functions that move cells of BINARY and BINARY2 promise: a cell after its count.
use Rattle.std.specs.Prelude.{◌≤◌, ℕ, Bool, false, List, [], ◌≡◌, eqb, drop, length, Option, Some, None}
use Rattle.binary.specs.Reading.{read_counted}
use Rattle.moving.specs.Cells.{CellPut}
use Rattle.moving.specs.Puts.{Puts}
use Rattle.moving.specs.declared.Moved.{Moved}
use Rattle.table.specs.Cell.{Cell, empty_is_null}
use Rattle.table.specs.Result.{Result, ◌>>=◌, good}
use Rattle.table.specs.declared.Column.{Column}
use Rattle.table.specs.declared.Rows.{Rows}
use Rattle.table.specs.declared.Rows.TheVariants.{Binary, Binary2, TableData}

-- rows without tags
abbrev pub NotText : Rows → Type 0
NotText TableData = ⊥
NotText Binary = Unit {0}
NotText Binary2 = Unit {0}

-- only BINARY2 has flags
unfoldable pub flag_as : Rows → Bool → Bool
flag_as TableData flagged = false
flag_as Binary flagged = false
flag_as Binary2 flagged = flagged

-- a cell whose content is not looked at: flagged in BINARY2, of no elements in BINARY
unfoldable pub skipped : Rows → Bool → ℕ → Bool
skipped TableData flagged n = false
skipped Binary flagged n = eqb n 0
skipped Binary2 flagged n = flagged

-- "Only BINARY2 tells empty from null (plan rule)."
unfoldable pub empty_as : Rows → Cell → Cell
empty_as TableData x = empty_is_null x
empty_as Binary x = empty_is_null x
empty_as Binary2 x = x

-- a cell of n elements, after its count
unfoldable pub counted_cell : Rows → Column → Bool → ℕ → List ℕ → Result ℕ (Cell × List ℕ)
counted_cell from c flagged n t = read_counted c (flag_as from flagged) n t >>= λ p. good (empty_as from p.0, p.1)

pub record CountedMoved (from to : Rows) (c : Column) (flagged : Bool) (n : ℕ) (s : List ℕ) (place : ℕ) (old : List ℕ) (o : ℕ) (new : List ℕ) (next e : ℕ) (null : Bool) : Type 0 where
  pub cell : Cell
  pub reads : counted_cell from c flagged n (drop place s) ≡ good (cell, drop next s)
  pub onward : place ≤ next
  pub inside : next ≤ length s
  pub put : CellPut to c cell next old o new next e null

abbrev pub MovesCounted : Rows → Rows → Column → Bool → ℕ → List ℕ → ℕ → List ℕ → ℕ → List ℕ → Option Moved → Type 0
MovesCounted from to c flagged n s place old o new (Some r) = CountedMoved from to c flagged n s place old o new r.next r.end r.null
MovesCounted from to c flagged n s place old o new None = Puts old o [] new o
