-- `text_moving::open_cell` meets its contract: four bytes, and one more, are those of a bare tag.
use Rattle.eights.proofs.Fronts.{are-bytes}
use Rattle.table.specs.All.{AreBytes}
use Rattle.text_moving.proofs.Tags.{opens-content, opens-empty}
use native.Mathlib.Omega.{arith}
use Rattle.text_moving.proofs.open_cell.Goals as goal

pub returns-then-x-eq1012155454 : goal.returns-then-x-eq1012155454
returns-then-x-eq1012155454 c =
    let bytes : AreBytes c.args.s.now = are-bytes c.args.s.now (λ i. omega (arith, c.shared_slice_known-1.given i)) in
    opens-content _ _ _ _ bytes c.cell_place-place.ensures (omega arith) c.four_bytes-x.ensures c.if-x-eq1012155454.true

pub returns : goal.returns
returns c =
    let bytes : AreBytes c.args.s.now = are-bytes c.args.s.now (λ i. omega (arith, c.shared_slice_known-1.given i)) in
    opens-empty _ _ _ _ bytes c.cell_place-place.ensures (omega arith) c.four_bytes-x.ensures
    c.if-x-ne1012155439.false c.if-s-place-ne62.false
