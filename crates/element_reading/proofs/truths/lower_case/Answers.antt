-- `element_reading::truths::lower_case` meets its contract: between the two sides of the capitals 32 more.
use native.Mathlib.Omega.{arith}
use mathlib.Core.Path.{sym}
use Rattle.element_reading.proofs.truths.Laws.{lower-not, lower-yes}
use Rattle.element_reading.proofs.truths.lower_case.Goals as goal

pub returns-in-65-to-90 : goal.returns-in-65-to-90
returns-in-65-to-90 c = (sym (lower-yes c.args.c (omega arith) (omega arith)), omega arith)

pub returns-in_default : goal.returns-in_default
returns-in_default c = (sym (lower-not c.args.c (λ h k. omega arith)), omega arith)

pub returns-in_default-2 : goal.returns-in_default-2
returns-in_default-2 c = (sym (lower-not c.args.c (λ h k. omega arith)), omega arith)
