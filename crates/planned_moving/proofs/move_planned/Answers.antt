-- planned_moving::move_planned: not what is flagged, has too few bytes or no room; else by what the step wants.
use Prim.Native.Nat.{◌+◌, ◌-◌}
use mathlib.Core.Bool.{Bool}
use mathlib.Core.Path.{◌∙◌, subst, sym}
use native.Mathlib.Omega.{arith}
use borrow.Author.Tests.{ltb-false}
use lib.Dec.{ltb}
use lib.ListN.{length}
use Rattle.cell_putting.specs.Clauses.{most_room}
use Rattle.moving.proofs.Puts.{puts_none}
use Rattle.moving.specs.Cells.{MovesCell}
use Rattle.planned_moving.proofs.Planned.{neither}
use Rattle.planned_moving.proofs.move_planned.Goals as goal

pub returns-then-is_text-flagged : goal.returns-then-is_text-flagged
returns-then-is_text-flagged c = λ column b q. puts_none c.args.row.now c.args.o c.requires.1

pub returns-then-s-at : goal.returns-then-s-at
returns-then-s-at c = λ column b q. puts_none c.args.row.now c.args.o c.requires.1

pub move_wanted-requires : goal.move_wanted-requires
move_wanted-requires c =
    let left = length c.args.s.now - c.args.at in
    let room = length c.args.row.now - c.args.o in
    let bytes = c.args.step.bytes in
    let n = neither (ltb left (bytes + 8)) (ltb room (bytes + most_room)) c.if-s-at.false in
    (omega (arith, ltb-false left (bytes + 8) n.0, c.requires.0), omega (arith, ltb-false room (bytes + most_room) n.1, c.requires.1))

pub returns : goal.returns
returns c =
    let a = c.args in
    let n = neither _ _ c.if-is_text-flagged.false in
    let m = c.move_wanted in
    λ column b q.
    subst (λ (flagged : Bool). MovesCell a.from a.to column flagged a.s.now a.at a.row.now a.o m.new.row m.result) (sym n.1)
    (m.ensures a.from column (sym c.is_text.ensures ∙ n.0) b q)
