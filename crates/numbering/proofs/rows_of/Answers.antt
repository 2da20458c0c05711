-- Each number in its arm, and any other is none of the three.
use Rattle.numbering.specs.Numbering.{rows_of}
use Rattle.numbering.proofs.ByNumber.{no_rows}
use native.Mathlib.Omega.{arith}
use mathlib.Core.Path.{ap, sym}
use Rattle.numbering.proofs.rows_of.Goals as goal

pub returns-in-0 : goal.returns-in-0
unfolding rows_of
returns-in-0 c = sym (ap rows_of c.in-0.is)

pub returns-in-1 : goal.returns-in-1
unfolding rows_of
returns-in-1 c = sym (ap rows_of c.in-1.is)

pub returns-in-2 : goal.returns-in-2
unfolding rows_of
returns-in-2 c = sym (ap rows_of c.in-2.is)

pub returns-in_default : goal.returns-in_default
returns-in_default c = sym (no_rows _ (λ e. omega (arith, e)) (λ e. omega (arith, e)) (λ e. omega (arith, e)))
