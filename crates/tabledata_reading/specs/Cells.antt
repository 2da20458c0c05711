-- What the contracts of the functions on what a cell shows say.
use Rattle.std.specs.Prelude.{Err, Ok, Option, Result as Outcome, ℕ, Bool, ◌&&◌, cond, List, ◌≡◌, leb, ℤ, length}
use Rattle.table.specs.Cell.{Cell, bound, empty_is_null, room_fits, room_in, show}
use Rattle.table.specs.Clauses.{ShownWithin, shown_as}
use Rattle.table.specs.Reasons.{number_of}
use Rattle.table.specs.Result.{Result, bad, good}
use Rattle.table.specs.Shape.{shape}
use Rattle.table.specs.declared.Column.{Column}
use Rattle.table.specs.declared.Kind.{Kind}
use Rattle.table.specs.declared.Len.{Len}
use Rattle.table.specs.declared.Reason.{Reason}
use Rattle.tabledata.specs.TableData.{count_fits}
use Rattle.element_reading.specs.Elements.{Stored}

-- does a count above 0 fit?
unfoldable pub room_and : Kind → Len → ℕ → Bool
room_and kind len m = room_fits (shape kind) (room_in len m) m && leb m (bound len)

-- what elements come to in a column, with the rest of the text
unfoldable pub shown_in : Column → List ℤ → List ℕ → Result ℕ (Cell × List ℕ)
shown_in c es rest = cond (count_fits c (length es)) (good (empty_is_null (show c es), rest)) (bad 12)

-- what the code says of that, with the elements in the scratch
abbrev pub shows_as : List ℕ → List ℤ → Outcome (Option ℕ) Reason → Result ℕ (Cell × List ℕ)
shows_as rest scratch (Ok r) = good (shown_as scratch r, rest)
shows_as rest scratch (Err e) = bad (number_of e)

abbrev pub ShowsWithin : List ℤ → Outcome (Option ℕ) Reason → Type 0
ShowsWithin scratch (Ok r) = ShownWithin scratch r
ShowsWithin scratch (Err e) = Unit {0}

pub record CellShows (c : Column) (count : ℕ) (scratch : List ℤ) (r : Outcome (Option ℕ) Reason) : Type 0 where
  pub found : (rest : List ℕ) (es : List ℤ) → Stored es count scratch → shown_in c es rest ≡ shows_as rest scratch r
  pub few : ShowsWithin scratch r
