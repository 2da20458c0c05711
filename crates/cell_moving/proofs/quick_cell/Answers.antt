-- cell_moving::quick_cell: by the kind of rows.
use mathlib.Core.Path.{◌∙◌, sym}
use Rattle.binary_moving.specs.Clauses.{NotText}
use Rattle.cell_putting.proofs.Cells.{no_text, text-is}
use Rattle.cell_moving.proofs.quick_cell.Goals as goal

pub returns-then-is_text : goal.returns-then-is_text
returns-then-is_text c =
    rw (text-is c.args.from (sym c.is_text.ensures ∙ c.if-is_text.true))
    (c.move_text.ensures c.args.flagged)

pub returns : goal.returns
returns c =
    c.move_binary.ensures (no_text NotText c.args.from (sym c.is_text.ensures ∙ c.if-is_text.false) tt tt)
