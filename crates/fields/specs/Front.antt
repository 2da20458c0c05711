-- The front of a call: what every call on rows asks before it reads a row.
use Rattle.std.specs.Prelude.{ℕ, cond, List, ltb}
use Rattle.fields.specs.Fields.{declare}
use Rattle.table.specs.Outcome.{Refusal, at, most_input}
use Rattle.table.specs.Result.{Result, ◌>>=◌, bad, good}
use Rattle.table.specs.declared.Column.{Column}

-- "Every row call takes the text of the declarations; their refusal comes first, at row 0 with its place as the column, and no row is read."
-- Then the input, of which only the size counts here: "For each input size comes first: 6 stands at row 0, column 0". Then the columns.
unfoldable pub front : List ℕ → ℕ → Result Refusal (List Column)
front decls size = declare decls >>= λ cs. cond (ltb most_input size) (bad (at 0 6)) (good cs)
