-- An answer in the terms of Fields: a column list by value, or a reason and a place.
use Rattle.std.specs.Prelude.{Err, Ok, Result as Returned, ℕ, List, ◌≡◌}
use Rattle.table.specs.ColumnList.{holding, listed}
use Rattle.table.specs.Outcome.{Refusal}
use Rattle.table.specs.Reasons.{refusal_of}
use Rattle.table.specs.Result.{Result, bad, good}
use Rattle.table.specs.declared.Column.{Column}
use Rattle.table.specs.declared.Columns.{Columns}
use Rattle.table.specs.declared.Reason.{Reason}
use Rattle.table.specs.declared.Refused.{Refused}

abbrev pub refusal : Reason → ℕ → Returned Columns Refused
refusal reason place = Err (record { reason = reason; column = place })

-- what an answer says
abbrev pub result_of : Returned Columns Refused → Result Refusal (List Column)
result_of (Ok columns) = good (listed columns)
result_of (Err e) = bad (refusal_of e)

-- a column list holds its columns and nothing else
abbrev pub Held : Returned Columns Refused → Type 0
Held (Ok columns) = columns ≡ holding (listed columns)
Held (Err e) = Unit {0}

-- "The place is the number of whole FIELDs before, and no column list is handed out."
pub record Answered (r : Result Refusal (List Column)) (answer : Returned Columns Refused) : Type 0 where
  pub says : r ≡ result_of answer
  pub held : Held answer
