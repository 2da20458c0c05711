-- `element_reading::truths::Spelling::and` meets its contract: a letter more.
use Rattle.element_reading.proofs.truths.Laws.{spelling-more}
use Rattle.element_reading.proofs.truths.SpellingLetters.and.Goals as goal

pub returns : goal.returns
returns c = λ w e. spelling-more w _ _ _ e c.with_letter.ensures
