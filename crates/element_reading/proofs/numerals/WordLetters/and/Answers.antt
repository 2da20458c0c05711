-- `element_reading::numerals` has a word with a letter more as the integers' reader has it.
use mathlib.Core.Path.{◌∙◌}
use Rattle.element_reading.proofs.numerals.Laws.{fed-letter}
use Rattle.element_reading.proofs.numerals.WordLetters.and.Goals as goal

pub returns : goal.returns
returns c = λ w e. c.next.ensures ∙ fed-letter _ w _ _ e c.letter_of.ensures
