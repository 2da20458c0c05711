-- `element_reading::numerals` has a word of no letters as the integers' reader has it.
use mathlib.Core.Path.{◌∙◌, sym}
use Rattle.element_reading.proofs.numerals.Laws.{feed-start}
use Rattle.element_reading.proofs.numerals.WordLetters.none.Goals as goal

pub returns : goal.returns
returns c = c.new.ensures ∙ sym feed-start
