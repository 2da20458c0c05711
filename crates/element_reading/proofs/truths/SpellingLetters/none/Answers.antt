-- `element_reading::truths::Spelling::none` meets its contract: a 1 alone is no letters.
use mathlib.Core.Path.{refl}
use Rattle.element_reading.specs.Words.{spelled}
use Rattle.element_reading.proofs.truths.SpellingLetters.none.Goals as goal

pub returns : goal.returns
unfolding spelled
returns c = refl
