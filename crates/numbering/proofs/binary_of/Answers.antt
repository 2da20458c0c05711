-- Each number in its arm, and any other is none of the two.
use Rattle.numbering.specs.Numbering.{binary_of}
use Rattle.numbering.proofs.ByNumber.{no-binary}
use native.Mathlib.Omega.{arith}
use mathlib.Core.Path.{ap, sym}
use Rattle.numbering.proofs.binary_of.Goals as goal

pub returns-in-1 : goal.returns-in-1
unfolding binary_of
returns-in-1 c = sym (ap binary_of c.in-1.is)

pub returns-in-2 : goal.returns-in-2
unfolding binary_of
returns-in-2 c = sym (ap binary_of c.in-2.is)

pub returns-in_default : goal.returns-in_default
returns-in_default c = sym (no-binary _ (λ e. omega (arith, e)) (λ e. omega (arith, e)))
