-- row_moving::begin_quickly: by the kind of rows, what the function for it promises.
use native.Mathlib.Omega.{arith}
use Rattle.row_reading.proofs.Ways.{begun-binary}
use Rattle.row_moving.proofs.begin_quickly.Goals as goal

pub begin_text-requires : goal.begin_text-requires
begin_text-requires c = (omega (arith, c.if-s-at-lt8.false, c.requires.0), c.requires.1, c.requires.2)

pub begin_flags-requires : goal.begin_flags-requires
begin_flags-requires c = (omega (arith, c.if-s-at-lt8.false, c.requires.0), c.requires.1, c.requires.2)

pub returns-in-TableData : goal.returns-in-TableData
returns-in-TableData c = rw c.in-TableData.is c.begin_text.ensures

pub returns-in-Binary : goal.returns-in-Binary
returns-in-Binary c =
    rw c.in-Binary.is (begun-binary c.args.s.now c.args.at c.args.count c.requires.0)

pub returns-in-Binary2 : goal.returns-in-Binary2
returns-in-Binary2 c = rw c.in-Binary2.is c.begin_flags.ensures
