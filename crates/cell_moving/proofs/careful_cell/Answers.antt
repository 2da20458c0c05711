-- cell_moving::careful_cell: what was found is what the definition reads, and it is put as that wherever it can be.
use mathlib.Core.Path.{◌∙◌, ap, subst}
use native.Mathlib.Omega.{arith}
use borrow.Author.Rules.{rules}
use Rattle.moving.proofs.Cells.{cell-settled, refused-left}
use Rattle.moving.proofs.Puts.{puts_none}
use Rattle.row_reading.proofs.CellsFit.{bytes-of, found-up-to}
use Rattle.table.specs.All.{AreBytes}
use Rattle.table.specs.Clauses.{FoundWithin, found_as}
use Rattle.cell_moving.proofs.careful_cell.Goals as goal

pub put_cell-requires : goal.put_cell-requires
put_cell-requires c =
    let s = c.args.s.now in
    let f = c.read_cell.ensures in
    let q = c.in-Ok.is in
    let bytes : AreBytes s = bytes-of s (λ i h. (c.type_inv.s i).fits) in
    let w = subst (FoundWithin s c.args.at _) q f.within in
    (c.requires.1, found-up-to c.args.from c.args.column c.args.flagged s c.args.at _ _ _ bytes w.2 (f.found ∙ ap (found_as s _) q), w.2, c.requires.3)

pub returns-in_default : goal.returns-in_default
returns-in_default c =
    let s = c.args.s.now in
    record {
      settles_cell = refused-left c.args.from c.args.to c.args.column c.args.flagged s c.args.at _ c.args.o _ _ c.in_default.ensures.found (puts_none _ _ c.requires.3);
      scratch_len_unchanged = c.read_cell.ensures.long;
    }

pub returns : goal.returns
returns c =
    let s = c.args.s.now in
    let f = c.read_cell.ensures in
    let q = c.in-Ok.is in
    let w = subst (FoundWithin s c.args.at _) q f.within in
    record {
      settles_cell = cell-settled c.args.from c.args.to c.args.column c.args.flagged s c.args.at c.args.row.now c.args.o _ _
          c.put_cell.new.row c.put_cell.result (f.found ∙ ap (found_as s _) q) w.0 w.1
          c.put_cell.ensures;
      scratch_len_unchanged = f.long;
    }
