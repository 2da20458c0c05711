-- declaring::front: the declarations' answer where they are refused, 6 for the input's size, and else the columns; each way out is a law of Front.
use native.Mathlib.Omega.{arith}
use mathlib.Core.Path.{subst, sym}
use Rattle.table.proofs.Failures.{handed-on}
use Rattle.declaring.proofs.Stages.{refused-there}
use Rattle.declaring.specs.Clauses.{Answered}
use Rattle.fields.proofs.Front.{front-declared, front-oversized, front-undeclared}
use Rattle.table.specs.Outcome.{most_input}
use Rattle.table.specs.declared.Reason.TheVariants.{TooLarge}
use Rattle.declaring.proofs.front.Goals as goal

pub returns-in_err-columns : goal.returns-in_err-columns
returns-in_err-columns c =
    subst (Answered _) (sym (handed-on c.from_residual.ensures.1))
    (record { says = front-undeclared _ _ _ c.in_err-columns.ensures.says; held = tt })

pub returns-then-size-gt-MOST_INPUT : goal.returns-then-size-gt-MOST_INPUT
unfolding most_input
returns-then-size-gt-MOST_INPUT c =
    refused-there TooLarge 0 c.refuse.ensures (front-oversized _ _ _ c.in_ok-columns.ensures.says (omega arith))

pub returns : goal.returns
unfolding most_input
returns c =
    let accepted = c.in_ok-columns.ensures in
    record { says = front-declared _ _ _ accepted.says (omega arith); held = accepted.held }
