-- binary_moving::is_skipped: by the kind of rows.
use Rattle.binary_moving.specs.Clauses.{skipped}
use Rattle.binary_moving.proofs.is_skipped.Goals as goal

pub returns-in-TableData : goal.returns-in-TableData
unfolding skipped
returns-in-TableData c = rw c.in-TableData.is

pub returns-in-Binary : goal.returns-in-Binary
unfolding skipped
returns-in-Binary c = rw c.in-Binary.is

pub returns-in-Binary2 : goal.returns-in-Binary2
unfolding skipped
returns-in-Binary2 c = rw c.in-Binary2.is
