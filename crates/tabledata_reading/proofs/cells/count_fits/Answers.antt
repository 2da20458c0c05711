-- `tabledata_reading::cells::count_fits` meets its contract, by the shape of the length.
use mathlib.Core.Path.{◌∙◌, sym}
use Rattle.tabledata_reading.proofs.cells.Laws.{room-own}
use Rattle.tabledata_reading.specs.Cells.{room_and}
use Rattle.tabledata_reading.proofs.cells.count_fits.Goals as goal

pub returns-then-fills : goal.returns-then-fills
unfolding room_and
returns-then-fills c = rw c.in-Fixed.is (rw (sym c.fills.ensures ∙ c.if-fills.true))

pub returns-else-fills : goal.returns-else-fills
unfolding room_and
returns-else-fills c = c.if-fills.false ∙ rw c.in-Fixed.is (rw (sym c.fills.ensures ∙ c.if-fills.false))

pub returns-in-Bounded : goal.returns-in-Bounded
unfolding room_and
returns-in-Bounded c = rw c.in-Bounded.is (sym (room-own _ _ _))

pub returns-in-Free : goal.returns-in-Free
unfolding room_and
returns-in-Free c = rw c.in-Free.is (sym (room-own _ _ _))
