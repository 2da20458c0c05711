-- Every P case of 01 holds of the definitions, by computation.
use mathlib.Core.Bool.{true}
use mathlib.Core.Path.{◌≡◌, refl}
use Rattle.demands.proofs.Everything.{everything}
use Rattle.demands.specs.Cases.{all_pass, cases}

pub cases-pass : all_pass cases ≡ true
unfolding everything
cases-pass = refl
