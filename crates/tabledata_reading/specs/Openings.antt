-- What the contracts of the functions on how a cell begins say.
use Rattle.std.specs.Prelude.{None, Option, Some, ◌≤◌, ℕ, List, [], ◌≡◌, drop, length}
use Rattle.table.specs.Result.{Result, bad, good}
use Rattle.tabledata.specs.TableData.{cell_text, characters, plain}
use Rattle.tabledata_reading.specs.declared.openings.Opening.TheVariants.{Content, Empty}
use Rattle.tabledata_reading.specs.declared.openings.Opening.{Opening}

-- how a cell begins, and its characters from there on
abbrev pub opening_text : List ℕ → Option Opening → Result ℕ (List ℕ × List ℕ)
opening_text s (Some (Empty next)) = good ([], drop next s)
opening_text s (Some (Content from)) = characters plain (drop from s)
opening_text s None = bad 10

abbrev pub OpeningWithin : List ℕ → ℕ → Option Opening → Type 0
OpeningWithin s place (Some (Empty next)) = (place ≤ next) × (next ≤ length s)
OpeningWithin s place (Some (Content from)) = (place ≤ from) × (from ≤ length s)
OpeningWithin s place None = Unit {0}

pub record OpeningIs (s : List ℕ) (place : ℕ) (r : Option Opening) : Type 0 where
  pub found : cell_text (drop place s) ≡ opening_text s r
  pub within : OpeningWithin s place r
