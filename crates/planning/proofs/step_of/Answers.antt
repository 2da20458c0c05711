-- planning::step_of: by the length of the column.
use Prim.Native.Nat.{◌≤◌}
use mathlib.Core.Path.{◌∙◌, subst}
use Rattle.planning.specs.Plan.{step_for}
use Rattle.table.specs.Cell.{bound, most_elements}
use Rattle.table.specs.declared.Len.{Len}
use Rattle.planning.proofs.step_of.Goals as goal

pub content_bytes-requires : goal.content_bytes-requires
content_bytes-requires c = subst (λ (l : Len). bound l ≤ most_elements) c.in-Fixed.is c.requires

pub returns-in-Fixed : goal.returns-in-Fixed
unfolding step_for
returns-in-Fixed c = rw (c.want_of.ensures, c.content_bytes.ensures.0, c.in-Fixed.is)

pub returns-in-Bounded : goal.returns-in-Bounded
unfolding step_for
returns-in-Bounded c = c.no_step.ensures ∙ rw c.in-Bounded.is

pub returns-in-Free : goal.returns-in-Free
unfolding step_for
returns-in-Free c = c.no_step-in-Free.ensures ∙ rw c.in-Free.is
