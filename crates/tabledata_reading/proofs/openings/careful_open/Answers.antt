-- `tabledata_reading::openings::careful_open` meets its contract: `<TD`, then `/>` or `>`, each after white space.
use mathlib.Core.Path.{subst}
use Rattle.tabledata_reading.proofs.openings.Laws.{cell-content, cell-empty, cell-no-end, cell-no-tag}
use Rattle.text.specs.Clauses.{TagIs}
use Rattle.tabledata_reading.proofs.openings.careful_open.Goals as goal

pub returns-in_err-i : goal.returns-in_err-i
returns-in_err-i c = rw c.from_residual.ensures (cell-no-tag c.in_err-i.ensures)

pub returns-in-Some : goal.returns-in-Some
returns-in-Some c = cell-empty c.in_ok-i.ensures c.in-Some.ensures

pub returns-in_err-from : goal.returns-in_err-from
returns-in_err-from c =
    rw c.from_residual-in_err-from.ensures
    (cell-no-end c.in_ok-i.ensures (subst (TagIs _ _ _) c.in_default.is c.ends-2.ensures) c.in_err-from.ensures)

pub returns : goal.returns
returns c = cell-content c.in_ok-i.ensures (subst (TagIs _ _ _) c.in_default.is c.ends-2.ensures) c.in_ok-from.ensures
