-- The eight numbers are the comparison's, in its order.
use Rattle.numbering.specs.Numbering.{eight}
use mathlib.Core.Path.{refl}
use Rattle.numbering.proofs.put_comparison.Goals as goal

pub returns : goal.returns
unfolding eight
returns c = refl
