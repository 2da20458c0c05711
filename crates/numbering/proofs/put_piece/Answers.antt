-- The six numbers are the answer's, in its order, and the place.
use Rattle.numbering.specs.Numbering.{five, six}
use mathlib.Core.Path.{refl}
use Rattle.numbering.proofs.put_piece.Goals as goal

pub returns : goal.returns
unfolding six five
returns c = refl
