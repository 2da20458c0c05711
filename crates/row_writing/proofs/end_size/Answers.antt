-- row_writing::end_size: how long what ends a row is, by the kind of rows.
use lib.Dec.{lit≤}
use mathlib.Core.Path.{refl}
use Rattle.rows.specs.Stream.{write_end}
use Rattle.tabledata.specs.TableData.{close-TR}
use Rattle.row_writing.proofs.end_size.Goals as goal

pub returns-in-TableData : goal.returns-in-TableData
unfolding write_end close-TR
returns-in-TableData c = rw c.in-TableData.is (lit≤ tt, refl)

pub returns-in-Binary : goal.returns-in-Binary
unfolding write_end
returns-in-Binary c = rw c.in-Binary.is (lit≤ tt, refl)

pub returns-in-Binary2 : goal.returns-in-Binary2
unfolding write_end
returns-in-Binary2 c = rw c.in-Binary2.is (lit≤ tt, refl)
