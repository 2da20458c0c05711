-- cell_moving::move_cell: what the quick way moves is moved; what it declines leaves what stands before its place, and the careful way goes on there.
use Rattle.std.specs.Prelude.{None}
use mathlib.Core.Path.{refl, subst}
use native.Mathlib.Omega.{arith}
use borrow.Author.Rules.{rules}
use Rattle.moving.proofs.Cells.{settled-after}
use Rattle.moving.specs.Cells.{MovesCell}
use Rattle.moving.specs.declared.Moved.{Moved}
use Rattle.cell_moving.proofs.move_cell.Goals as goal

pub returns-in-Some : goal.returns-in-Some
returns-in-Some c =
    let a = c.args in
    let q = c.quick_cell-quick in
    record {
      settles_cell = rw c.in-Some.is (subst (MovesCell a.from a.to a.column a.flagged a.s.now a.at a.row.now a.o q.new.row) c.in-Some.is q.ensures);
      scratch_len_unchanged = refl;
    }

pub careful_cell-requires : goal.careful_cell-requires
careful_cell-requires c =
    let declined : let a = c.args in MovesCell a.from a.to a.column a.flagged a.s.now a.at a.row.now a.o c.quick_cell-quick.new.row None = (let a = c.args in
    let q = c.quick_cell-quick in
    subst (MovesCell a.from a.to a.column a.flagged a.s.now a.at a.row.now a.o q.new.row) c.in-None.is q.ensures) in
    let u = declined in
    (c.requires.0, c.requires.1, c.requires.2, omega (arith, u.long, c.requires.3))

pub returns-in-None : goal.returns-in-None
returns-in-None c =
    let declined : let a = c.args in MovesCell a.from a.to a.column a.flagged a.s.now a.at a.row.now a.o c.quick_cell-quick.new.row None = (let a = c.args in
    let q = c.quick_cell-quick in
    subst (MovesCell a.from a.to a.column a.flagged a.s.now a.at a.row.now a.o q.new.row) c.in-None.is q.ensures) in
    let a = c.args in
    let m = c.careful_cell in
    let u = declined in
    record {
      settles_cell = settled-after a.from a.to a.column a.flagged a.s.now a.at a.row.now a.o _ m.new.row m.result u m.ensures.settles_cell;
      scratch_len_unchanged = m.ensures.scratch_len_unchanged;
    }
