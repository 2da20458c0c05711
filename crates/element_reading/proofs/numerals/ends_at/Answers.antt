-- `element_reading::numerals::ends_at` meets its contract: a bare end tag ends a cell, the last byte a part.
use Rattle.character_reading.proofs.characters.Laws.{ends-bare}
use Rattle.element_reading.proofs.numerals.ends_at.Goals as goal

pub returns-in-Markup : goal.returns-in-Markup
returns-in-Markup c = rw c.in-Markup.is (ends-bare _ c.goes_on.ensures)
