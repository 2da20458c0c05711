-- `binary::read_binary2` meets its contract: the count, then the cell after its count.
use Rattle.binary_reading.proofs.Cells.{binary2-counted, binary2-uncounted, reads-from}
use Rattle.table.proofs.Failures.{handed-on}
use Rattle.table.specs.Clauses.{Reads}
use lib.ListN.{drop}
use mathlib.Core.Path.{refl, subst, sym}
use native.Mathlib.Omega.{arith}
use Rattle.binary_reading.proofs.read_binary2.Goals as goal

pub read_counted-requires : goal.read_counted-requires
read_counted-requires c =
    let w = c.in_ok-count.ensures.within in
    (w.1, omega (arith, w.2, c.requires.1), c.requires.2)

pub returns-in_err-count : goal.returns-in_err-count
returns-in_err-count c =
    let a = c.args in
    subst (Reads _ _ _ _ _) (sym (handed-on c.from_residual.ensures.1)) (record {
      found = binary2-uncounted a.column a.flagged (drop a.at a.s.now) _ c.in_err-count.ensures.found;
      within = tt;
      long = refl;
    })

pub returns : goal.returns
returns c =
    let a = c.args in
    let k = c.in_ok-count.ensures in
    reads-from (binary2-counted a.column a.flagged (drop a.at a.s.now) _ _ k.found) k.within.0 c.read_counted.ensures
