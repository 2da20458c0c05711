-- `tabledata_reading::cells::fills` meets its contract: char alone may be shorter.
use mathlib.Core.Path.{◌∙◌, sym}
use Rattle.table.specs.Cell.{room_fits}
use Rattle.tabledata_reading.proofs.cells.fills.Goals as goal

pub returns-then-is_char : goal.returns-then-is_char
unfolding room_fits
returns-then-is_char c = rw (sym c.is_char.ensures ∙ c.if-is_char.true)

pub returns-else-is_char : goal.returns-else-is_char
unfolding room_fits
returns-else-is_char c = rw (sym c.is_char.ensures ∙ c.if-is_char.false)
