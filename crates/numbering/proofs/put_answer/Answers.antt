-- The five numbers are the answer's, in its order.
use Rattle.numbering.specs.Numbering.{five}
use mathlib.Core.Path.{refl}
use Rattle.numbering.proofs.put_answer.Goals as goal

pub returns : goal.returns
unfolding five
returns c = refl
