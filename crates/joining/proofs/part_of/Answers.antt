-- joining::part_of: nine numbers in their order.
use mathlib.Core.Path.{refl}
use Rattle.parts.specs.Join.{first_part}
use Rattle.joining.proofs.part_of.Goals as goal

pub returns : goal.returns
unfolding first_part
returns c = refl
