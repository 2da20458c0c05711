-- What an answer says, for those above: columns are handed out, or a refusal names its reason and its place.
use mathlib.Core.List.{List}
use mathlib.Core.Path.{◌∙◌, ◌≡◌, ap, sym}
use Rattle.declaring.specs.Clauses.{Answered, result_of}
use Rattle.std.specs.Prelude.{Err, Ok, Result as Returned}
use Rattle.table.specs.ColumnList.{listed}
use Rattle.table.specs.Outcome.{Refusal, at}
use Rattle.table.specs.Reasons.{number_of}
use Rattle.table.specs.Result.{Result, bad, good}
use Rattle.table.specs.declared.Column.{Column}
use Rattle.table.specs.declared.Columns.{Columns}
use Rattle.table.specs.declared.Refused.{Refused}

module _ (r : Result Refusal (List Column)) (d : Returned Columns Refused) (a : Answered r d) where
  -- an answer says what it answers
  pub answer-is : result_of d ≡ r
  answer-is = sym a.says

  pub accepted-is : (columns : Columns) → d ≡ Ok columns → r ≡ good (listed columns)
  accepted-is columns e = a.says ∙ ap result_of e

  pub refused-is : (e : Refused) → d ≡ Err e → r ≡ bad (at e.column (number_of e.reason))
  refused-is e q = a.says ∙ ap result_of q
