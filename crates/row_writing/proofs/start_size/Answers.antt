-- row_writing::start_size: how long what begins a row is, by the kind of rows.
use mathlib.Core.Path.{refl}
use lib.Dec.{lit≤}
use Rattle.row_writing.specs.Clauses.{start_bytes}
use Rattle.tabledata.specs.TableData.{open-TR}
use Rattle.row_writing.proofs.Sizes.{start-length-binary2}
use native.Mathlib.Omega.{arith}
use Rattle.row_writing.proofs.start_size.Goals as goal

pub returns-in-TableData : goal.returns-in-TableData
unfolding start_bytes open-TR
returns-in-TableData c = rw c.in-TableData.is (lit≤ tt, λ nulls. refl)

pub returns-in-Binary : goal.returns-in-Binary
unfolding start_bytes
returns-in-Binary c = rw c.in-Binary.is (lit≤ tt, λ nulls. refl)

pub returns-in-Binary2 : goal.returns-in-Binary2
returns-in-Binary2 c = rw c.in-Binary2.is (omega (arith, c.requires), start-length-binary2 _)
