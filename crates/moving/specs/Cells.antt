-- A cell moved from the input into a row's buffer.
use Rattle.std.specs.Prelude.{◌+◌, ◌<◌, ◌≤◌, ℕ, Bool, false, List, [], ◌≡◌, ℤ, drop, length, Option, Some, None}
use Rattle.moving.specs.Puts.{Puts}
use Rattle.moving.specs.declared.Moved.{Moved}
use Rattle.rows.specs.Stream.{read_cell, write_cell}
use Rattle.table.specs.Cell.{Cell, empty_is_null, is_null, is_null_list, show, stands_for_null}
use Rattle.table.specs.Result.{good}
use Rattle.table.specs.declared.Column.{Column}
use Rattle.table.specs.declared.Rows.{Rows}
use Rattle.table.specs.declared.Rows.TheVariants.{Binary, Binary2, TableData}

-- it reads at its place, and its bytes as the other kind has them stand in the buffer
pub record CellMoved (from to : Rows) (c : Column) (flagged : Bool) (s : List ℕ) (place : ℕ) (old : List ℕ) (o : ℕ) (new : List ℕ) (next e : ℕ) (null : Bool) : Type 0 where
  pub cell : Cell
  pub bytes : List ℕ
  pub reads : read_cell from c flagged (drop place s) ≡ good (cell, drop next s)
  pub onward : place ≤ next
  pub inside : next ≤ length s
  pub writes : write_cell to c cell ≡ good bytes
  pub puts : Puts old o bytes new e
  pub null_is : null ≡ is_null cell

-- what is not moved leaves what stands before its place
abbrev pub MovesCell : Rows → Rows → Column → Bool → List ℕ → ℕ → List ℕ → ℕ → List ℕ → Option Moved → Type 0
MovesCell from to c flagged s place old o new (Some r) = CellMoved from to c flagged s place old o new r.next r.end r.null
MovesCell from to c flagged s place old o new None = Puts old o [] new o

-- a cell x has no form, or no room behind a place of a buffer
abbrev pub CellUnfit : Rows → Column → Cell → List ℕ → ℕ → Type 0
CellUnfit to c x old o = (bytes : List ℕ) → write_cell to c x ≡ good bytes → length old < o + length bytes

-- a cell is left only where it is refused, has no form, or the buffer has no room for it
pub record CellLeft (from to : Rows) (c : Column) (flagged : Bool) (s : List ℕ) (place : ℕ) (old : List ℕ) (o : ℕ) (new : List ℕ) : Type 0 where
  pub puts : Puts old o [] new o
  pub unfit : (x : Cell) (rest : List ℕ) → read_cell from c flagged (drop place s) ≡ good (x, rest) → CellUnfit to c x old o

-- a cell is moved wherever one can be
abbrev pub SettlesCell : Rows → Rows → Column → Bool → List ℕ → ℕ → List ℕ → ℕ → List ℕ → Option Moved → Type 0
SettlesCell from to c flagged s place old o new (Some r) = CellMoved from to c flagged s place old o new r.next r.end r.null
SettlesCell from to c flagged s place old o new None = CellLeft from to c flagged s place old o new

-- a cell x that ends at a place of the input, put as it is written
pub record CellPut (to : Rows) (c : Column) (x : Cell) (next : ℕ) (old : List ℕ) (o : ℕ) (new : List ℕ) (next' e : ℕ) (null' : Bool) : Type 0 where
  pub bytes : List ℕ
  pub writes : write_cell to c x ≡ good bytes
  pub puts : Puts old o bytes new e
  pub same_next : next' ≡ next
  pub null_is : null' ≡ is_null x

abbrev pub PutsCell : Rows → Column → Cell → ℕ → List ℕ → ℕ → List ℕ → Option Moved → Type 0
PutsCell to c x next old o new (Some r) = CellPut to c x next old o new r.next r.end r.null
PutsCell to c x next old o new None = Puts old o [] new o

-- a cell x is put wherever it can be
abbrev pub SettlesPut : Rows → Column → Cell → ℕ → List ℕ → ℕ → List ℕ → Option Moved → Type 0
SettlesPut to c x next old o new (Some r) = CellPut to c x next old o new r.next r.end r.null
SettlesPut to c x next old o new None = Puts old o [] new o × CellUnfit to c x old o

-- ---- elements that were read

-- what elements that stand in a cell show, by the kind of rows: "In TABLEDATA and BINARY an empty cell is null"
unfoldable pub shown_as : Rows → Column → List ℤ → Cell
shown_as TableData c es = empty_is_null (show c es)
shown_as Binary c es = empty_is_null (show c es)
shown_as Binary2 c es = show c es

-- no element of the column stands for null
abbrev pub NeverNull : Column → Type 0
NeverNull c = (es : List ℤ) → is_null_list (stands_for_null c) es ≡ false

-- elements, where Reads says which stand up to a place of the input, and what they show put as it is written
pub record ReadMoved (Reads : ℕ → List ℤ → Type 0) (from to : Rows) (c : Column) (old : List ℕ) (o : ℕ) (new : List ℕ) (next e : ℕ) (null : Bool) : Type 0 where
  pub es : List ℤ
  pub reads : Reads next es
  pub put : CellPut to c (shown_as from c es) next old o new next e null

abbrev pub MovesRead : (ℕ → List ℤ → Type 0) → Rows → Rows → Column → List ℕ → ℕ → List ℕ → Option Moved → Type 0
MovesRead Reads from to c old o new (Some r) = ReadMoved Reads from to c old o new r.next r.end r.null
MovesRead Reads from to c old o new None = Puts old o [] new o
