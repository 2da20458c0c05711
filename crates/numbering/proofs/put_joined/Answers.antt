-- The eight numbers are those of the record, in its order.
use mathlib.Core.Path.{refl}
use Rattle.numbering.specs.Numbering.{joined_numbers}
use Rattle.numbering.proofs.put_joined.Goals as goal

pub returns : goal.returns
unfolding joined_numbers
returns c = refl
