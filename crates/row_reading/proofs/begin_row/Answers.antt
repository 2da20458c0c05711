-- row_reading::begin_row: by the kind of rows, one law of Ways each.
use mathlib.Core.Path.{subst, sym}
use Rattle.table.proofs.Failures.{handed-on}
use Rattle.row_reading.proofs.Ways.{begun-text, unbegun-text, begun-binary, begun-binary2, unbegun-binary2}
use Rattle.row_reading.specs.Clauses.{Begins}
use Rattle.row_reading.proofs.begin_row.Goals as goal

pub returns-in-None : goal.returns-in-None
returns-in-None c =
    let r = c.row_begins in
    rw c.in-TableData.is (unbegun-text c.args.s.now c.args.at c.args.count r.result r.ensures c.in-None.is)

pub returns-in-Some : goal.returns-in-Some
returns-in-Some c =
    let r = c.row_begins in
    rw c.in-TableData.is (begun-text c.args.s.now c.args.at c.args.count r.result r.ensures c.in-Some.cells c.in-Some.is)

pub returns-in-Binary : goal.returns-in-Binary
returns-in-Binary c = rw c.in-Binary.is (begun-binary c.args.s.now c.args.at c.args.count c.requires.0)

pub returns-in_err-f-in-Binary2 : goal.returns-in_err-f-in-Binary2
returns-in_err-f-in-Binary2 c =
    rw c.in-Binary2.is (subst (Begins _ _ _ _) (sym (handed-on c.from_residual.ensures.1)) (unbegun-binary2 c.args.s.now c.args.at c.args.count _ c.in_err-f-in-Binary2.ensures))

pub returns-in_ok-f-in-Binary2 : goal.returns-in_ok-f-in-Binary2
returns-in_ok-f-in-Binary2 c = rw c.in-Binary2.is (begun-binary2 c.args.s.now c.args.at c.args.count c.in_ok-f-in-Binary2.f c.in_ok-f-in-Binary2.ensures)
