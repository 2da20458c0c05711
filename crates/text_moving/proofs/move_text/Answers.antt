-- `text_moving::move_text` meets its contract: by how the cell begins.
use Rattle.std.specs.Prelude.{Some}
use Rattle.moving.proofs.Puts.{puts_none}
use Rattle.text_moving.proofs.Cells.{empty-moved, text-moved}
use Rattle.text_moving.specs.Clauses.{OpensAs}
use Rattle.text_moving.specs.declared.Opening.{Opening}
use native.Mathlib.Omega.{arith}
use Rattle.text_moving.proofs.move_text.Goals as goal

pub returns-then-row-o-lt-ROOM : goal.returns-then-row-o-lt-ROOM
returns-then-row-o-lt-ROOM c = λ flagged. puts_none _ _ c.requires.2

pub move_content-requires : goal.move_content-requires
move_content-requires c =
    let opened : let a = c.args in OpensAs a.s.now a.at (Some (Opening.Content c.in-Content.from)) = rw c.in-Content.is at c.in_ok-next.ensures in
    (opened.2, c.requires.1, omega (arith, c.if-row-o-lt-ROOM.false, c.requires.2))

pub returns-in-Empty : goal.returns-in-Empty
returns-in-Empty c =
    let opened : let a = c.args in OpensAs a.s.now a.at (Some (Opening.Empty c.in-Empty.next)) = rw c.in-Empty.is at c.in_ok-next.ensures in
    let a = c.args in
    let put = c.put_null in
    λ flagged. empty-moved a.column a.s.now a.at a.to flagged a.row.now a.o put.new.row put.result c.in-Empty.next opened put.ensures

pub returns-in-Content : goal.returns-in-Content
returns-in-Content c =
    let opened : let a = c.args in OpensAs a.s.now a.at (Some (Opening.Content c.in-Content.from)) = rw c.in-Content.is at c.in_ok-next.ensures in
    let a = c.args in
    let move = c.move_content in
    λ flagged. text-moved a.column a.s.now a.at a.to flagged a.row.now a.o move.new.row move.result c.in-Content.from opened move.ensures
