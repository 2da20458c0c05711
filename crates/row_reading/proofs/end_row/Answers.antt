-- row_reading::end_row: by the kind of rows, one law of Ways each.
use mathlib.Core.Path.{refl, subst, sym}
use Rattle.rows.specs.Stream.{read_end}
use Rattle.row_reading.proofs.Ways.{closed-text, closed-here}
use Rattle.row_reading.specs.Clauses.{Closes}
use Rattle.row_reading.proofs.end_row.Goals as goal

pub returns-in-TableData : goal.returns-in-TableData
returns-in-TableData c = rw c.in-TableData.is (subst (Closes _ _ _) (sym c.ok_or.ensures.value) (closed-text c.args.s.now c.args.at c.row_ends.result c.row_ends.ensures))

pub returns-in-Binary : goal.returns-in-Binary
unfolding read_end
returns-in-Binary c = rw c.in-Binary.is (closed-here _ c.args.s.now c.args.at refl c.requires)

pub returns-in-Binary2 : goal.returns-in-Binary2
unfolding read_end
returns-in-Binary2 c = rw c.in-Binary2.is (closed-here _ c.args.s.now c.args.at refl c.requires)
