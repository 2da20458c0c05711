-- What the functions that find a row promise.
use Rattle.std.specs.Prelude.{Result as Returned, Ok, Err, ◌-◌, ◌≤◌, ℕ, List, [], ◌≡◌, drop, length, take}
use Rattle.finding.specs.declared.Wanted.{Wanted}
use Rattle.rows.specs.Stream.{run}
use Rattle.table.specs.Outcome.{Outcome, refused}
use Rattle.table.specs.Reasons.{refusal_of}
use Rattle.table.specs.declared.Refused.{Refused}
use Rattle.table.specs.declared.Column.{Column}
use Rattle.table.specs.declared.Rows.{Rows}
use Rattle.table.specs.declared.Rows.TheVariants.{TableData}

-- a row that is found: what is fetched, in any room, is what its bytes give as a stream of their own; or its refusal

abbrev pub Finds : Rows → List Column → List ℕ → (ℕ → Outcome) → Returned Wanted Refused → Type 0
Finds from cs s fetched (Ok w) =
    ((room : ℕ) → fetched room ≡ run from TableData cs room (take (w.next - w.start) (drop w.start s))) × (w.start ≤ w.next) × (w.next ≤ length s)
Finds from cs s fetched (Err f) = (room : ℕ) → fetched room ≡ refused (refusal_of f) 0 []
