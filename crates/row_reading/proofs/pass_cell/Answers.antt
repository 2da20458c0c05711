-- row_reading::pass_cell: what was found is passed over, or its refusal handed on.
use mathlib.Core.Path.{subst, sym}
use Rattle.table.proofs.Failures.{handed-on}
use Rattle.row_reading.proofs.Parts.{found-cell, refused-cell}
use Rattle.row_reading.specs.Clauses.{PassesCell}
use Rattle.row_reading.proofs.pass_cell.Goals as goal

pub returns-in_err-found : goal.returns-in_err-found
returns-in_err-found c =
    let r = c.in_err-found.ensures in record {
      passes_cell = subst (PassesCell _ _ _) (sym (handed-on c.from_residual.ensures.1)) (refused-cell _ _ _ _ _ _ r);
      scratch_len_unchanged = r.long;
    }

pub returns : goal.returns
returns c = let r = c.in_ok-found.ensures in record { passes_cell = found-cell _ _ _ _ _ _ r; scratch_len_unchanged = r.long }
