-- row_writing::size_cell: a cell is measured by its target's kind of rows: the size is its own function's, and one law bounds it.
-- For BINARY, what is answered is shown to be what its function gave, whatever stands between them: an edit is then refused for its answer.
use mathlib.Core.Path.{◌∙◌, ap}
use Rattle.std.specs.Prelude.{Ok}
use Rattle.table.specs.Clauses.{size_as}
use Rattle.table.specs.Result.{good}
use Rattle.table.specs.declared.Rows.TheVariants.{Binary, Binary2, TableData}
use Rattle.rows.specs.Stream.{write_cell}
use Rattle.row_writing.proofs.Sizes.{measured}
use Rattle.row_writing.proofs.size_cell.Goals as goal

pub returns-in-TableData : goal.returns-in-TableData
unfolding write_cell
returns-in-TableData c = let a = c.args in rw c.in-TableData.is (measured TableData a.column a.shown a.scratch.now _ c.requires.0 c.requires.1 c.size_text.ensures)

pub returns-in-Binary : goal.returns-in-Binary
unfolding write_cell
returns-in-Binary c = let a = c.args in rw c.in-Binary.is (measured Binary a.column a.shown a.scratch.now _ c.requires.0 c.requires.1 (ap size_as (cc) ∙ c.size_binary.ensures))

pub returns-in-Binary2 : goal.returns-in-Binary2
unfolding write_cell
returns-in-Binary2 c = let a = c.args in rw c.in-Binary2.is (measured Binary2 a.column a.shown a.scratch.now (Ok c.size_binary2.result) c.requires.0 c.requires.1 (ap good c.size_binary2.ensures))
