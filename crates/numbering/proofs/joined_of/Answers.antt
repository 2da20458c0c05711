-- The eight numbers in their order.
use mathlib.Core.Path.{refl}
use Rattle.numbering.specs.Numbering.{joined_of}
use Rattle.numbering.proofs.joined_of.Goals as goal

pub returns : goal.returns
unfolding joined_of
returns c = refl
