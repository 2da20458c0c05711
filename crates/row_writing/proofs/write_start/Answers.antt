-- row_writing::write_start: the start of a row that is written, by the kind of rows: as its own writer leaves it, or nothing.
use mathlib.Core.Path.{ap}
use lib.ListN.{length}
use Rattle.table.specs.declared.Rows.{Rows}
use Rattle.binary.specs.Binary.{bit_bytes}
use Rattle.row_writing.specs.Clauses.{start_bytes}
use Rattle.tabledata.specs.TableData.{open-TR}
use Rattle.row_writing.proofs.Sizes.{start-length-binary2}
use Rattle.table.proofs.Wrote.{wrote_none}
use native.Mathlib.Omega.{arith}
use Rattle.row_writing.proofs.write_start.Goals as goal

pub write_row_start-requires : goal.write_row_start-requires
unfolding start_bytes open-TR
write_row_start-requires c =
    omega (arith, c.requires.0, ap (λ (r : Rows). length (start_bytes r c.args.count c.args.nulls)) c.in-TableData.is)

pub write_flags-requires : goal.write_flags-requires
unfolding bit_bytes
write_flags-requires c = (
  c.requires.1,
  omega (
    arith,
    c.requires.0,
    ap (λ (r : Rows). length (start_bytes r c.args.count c.args.nulls)) c.in-Binary2.is,
    start-length-binary2
        c.args.count c.args.nulls,
  ),
)

pub returns-in-TableData : goal.returns-in-TableData
unfolding start_bytes
returns-in-TableData c =
    rw c.in-TableData.is c.write_row_start.ensures

pub returns-in-Binary : goal.returns-in-Binary
unfolding start_bytes
returns-in-Binary c = rw c.in-Binary.is (wrote_none _ _)

pub returns-in-Binary2 : goal.returns-in-Binary2
unfolding start_bytes
returns-in-Binary2 c =
    rw c.in-Binary2.is c.write_flags.ensures
