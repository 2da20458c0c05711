-- What the contracts of the functions on a cell of TABLEDATA say.
use Rattle.std.specs.Prelude.{◌+◌, ◌≤◌, ℕ, true, List, [], ◌≡◌, ℤ, drop, length, Option, Some, None}
use Rattle.moving.specs.Contents.{InText}
use Rattle.table.specs.Cell.{bound}
use Rattle.table.specs.Result.{good}
use Rattle.table.specs.Shape.{shape}
use Rattle.table.specs.declared.Column.{Column}
use Rattle.tabledata.specs.TableData.{cell_text, characters, count_fits, plain}
use Rattle.text_moving.specs.declared.Opening.{Opening}

-- how a cell begins, and its characters from there on
abbrev pub OpensAs : List ℕ → ℕ → Option Opening → Type 0
OpensAs s place (Some (Opening.Empty next)) = (cell_text (drop place s) ≡ good ([], drop next s)) × (place ≤ next) × (next ≤ length s)
OpensAs s place (Some (Opening.Content from)) = (cell_text (drop place s) ≡ characters plain (drop from s)) × (place ≤ from) × (from ≤ length s)
OpensAs s place None = Unit {0}

-- a bare end tag
pub record ClosesAt (s : List ℕ) (place : ℕ) : Type 0 where
  pub closed : characters plain (drop place s) ≡ good ([], drop (place + 5) s)
  pub inside : place + 5 ≤ length s

-- some elements, as many as a column has
pub record Counts (c : Column) (m : ℕ) : Type 0 where
  pub fits : count_fits c m ≡ true
  pub some : 1 ≤ m
  pub few : m ≤ bound c.len

-- the elements from one place to another, the end tag behind them
pub record TextRead (c : Column) (s : List ℕ) (from next : ℕ) (es : List ℤ) : Type 0 where
  pub end : ℕ
  pub text : InText (shape c.kind) s from end es
  pub closes : ClosesAt s end
  pub next-is : next ≡ end + 5
  pub fits : count_fits c (length es) ≡ true
