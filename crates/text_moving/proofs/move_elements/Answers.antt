-- `text_moving::move_elements` meets its contract: by the kind of rows.
use mathlib.Core.Path.{◌∙◌, sym}
use Rattle.cell_putting.proofs.Cells.{no_text, text-is}
use Rattle.moving.specs.Cells.{MovesRead}
use Rattle.table.specs.declared.Rows.{Rows}
use Rattle.table.specs.declared.Rows.TheVariants.{TableData}
use Rattle.text_moving.specs.Clauses.{TextRead}
use Rattle.text_moving.proofs.move_elements.Goals as goal

pub returns-then-is_text : goal.returns-then-is_text
returns-then-is_text c = rw (text-is _ (sym c.is_text.ensures ∙ c.if-is_text.true)) c.copy_elements.ensures

pub returns : goal.returns
returns c =
    let a = c.args in
    let p = c.read_elements in
    λ never. no_text
    (λ (to : Rows). MovesRead (TextRead a.column a.s.now a.from) TableData to a.column a.row.now a.o p.new.row p.result) a.to
    (sym c.is_text.ensures ∙ c.if-is_text.false) (p.ensures never).0 (p.ensures never).1
