-- binary_moving::move_elements: by the kind of rows.
use mathlib.Core.Path.{◌∙◌, sym}
use Rattle.cell_putting.proofs.Cells.{no_text, text-is}
use Rattle.moving.specs.Cells.{MovesRead}
use Rattle.moving.specs.Contents.{InBinary}
use Rattle.table.specs.Shape.{shape}
use Rattle.table.specs.declared.Rows.{Rows}
use Rattle.binary_moving.proofs.move_elements.Goals as goal

pub returns-then-is_text : goal.returns-then-is_text
returns-then-is_text c = rw (text-is _ (sym c.is_text.ensures ∙ c.if-is_text.true)) c.show_elements.ensures

pub returns : goal.returns
returns c =
    let a = c.args in
    let p = c.pass_elements in
    λ from never. no_text
    (λ (to : Rows). MovesRead (InBinary (shape a.column.kind) a.n a.s.now a.at) from to a.column a.row.now a.o p.new.row p.result) a.to
    (sym c.is_text.ensures ∙ c.if-is_text.false) (p.ensures.moves_read from never) (p.ensures.moves_read_2 from never)
