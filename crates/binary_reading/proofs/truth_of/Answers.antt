-- `binary::truth_of` meets its contract: the definition computes at each byte named, and at the rest every test fails.
use Rattle.binary.proofs.Loops.{truth-rest}
use Rattle.binary.specs.Binary.{element, truth}
use mathlib.Core.Logic.{⊎_elim}
use Rattle.binary_reading.proofs.truth_of.Goals as goal

pub returns-in-84 : goal.returns-in-84
unfolding element truth
returns-in-84 c = ⊎_elim (λ e. rw e) (λ e. ⊎_elim (λ f. rw f) (λ f. rw f) e) c.in-84.is

pub returns-in-70 : goal.returns-in-70
unfolding element truth
returns-in-70 c = ⊎_elim (λ e. rw e) (λ e. ⊎_elim (λ f. rw f) (λ f. rw f) e) c.in-70.is

pub returns-in-0 : goal.returns-in-0
unfolding element truth
returns-in-0 c = ⊎_elim (λ e. rw e) (λ e. ⊎_elim (λ f. rw f) (λ f. rw f) e) c.in-0.is

pub returns-in_default : goal.returns-in_default
returns-in_default c = truth-rest _ c.in_default.in_default-own.rest.0.0.1 c.in_default.in_default-own.rest.0.1 c.in_default.in_default-own.rest.1
