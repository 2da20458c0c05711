-- cell_moving::put_cell: a cell that has a size has a form, and with room for it that is what is put; with none, or with no size, it cannot be.
use mathlib.Core.Path.{◌∙◌, ◌≡◌, ap, sym}
use native.Mathlib.Omega.{arith}
use Rattle.cell_moving.proofs.Cells.{cell-put, form-length, no-form, no_room, shown-null}
use Rattle.moving.proofs.Puts.{puts_none}
use Rattle.rows.specs.Stream.{write_cell}
use Rattle.table.specs.Clauses.{shown_as, size_as, size_of}
use Rattle.table.specs.Result.{good}
use Rattle.cell_moving.proofs.put_cell.Goals as goal

pub returns-then-row-o : goal.returns-then-row-o
returns-then-row-o c =
    let takes : good c.in-Ok.size ≡ size_of (write_cell c.args.to c.args.column (shown_as c.args.scratch.now c.args.found.shown)) = sym (ap size_as c.in-Ok.is) ∙ c.size_cell.ensures.0 in
    (puts_none _ _ c.requires.3, no_room c.args.to c.args.column _ c.args.row.now c.args.o _ takes (omega (arith, c.if-row-o.true, c.requires.3)))

pub write_cell-end-requires : goal.write_cell-end-requires
write_cell-end-requires c =
    let takes : good c.in-Ok.size ≡ size_of (write_cell c.args.to c.args.column (shown_as c.args.scratch.now c.args.found.shown)) = sym (ap size_as c.in-Ok.is) ∙ c.size_cell.ensures.0 in
    record {
      len_bound = (c.requires.0, c.requires.1, c.requires.2);
      scratch_in_bounds = omega (arith, form-length c.args.to c.args.column _ _ takes, c.if-row-o.false, c.requires.3);
    }

pub returns-in_default : goal.returns-in_default
returns-in_default c = (puts_none _ _ c.requires.3, no-form c.args.to c.args.column _ c.args.row.now c.args.o _ c.in_default.ensures.0)

pub returns : goal.returns
returns c =
    let takes : good c.in-Ok.size ≡ size_of (write_cell c.args.to c.args.column (shown_as c.args.scratch.now c.args.found.shown)) = sym (ap size_as c.in-Ok.is) ∙ c.size_cell.ensures.0 in
    cell-put c.args.to c.args.column _ _ c.args.found.next _ _ c.args.o _ _ (shown-null _ c.args.found.shown _ c.is_none.ensures) takes (omega (arith, c.if-row-o.false, c.requires.3))
    c.write_cell-end.ensures
