-- comparing::refuse: a refusal in one of the inputs, as the definition has it.
use mathlib.Core.Path.{refl}
use Rattle.compare.specs.Compare.{refused_in}
use Rattle.comparing.proofs.refuse.Goals as goal

pub returns : goal.returns
unfolding refused_in
returns c = refl
