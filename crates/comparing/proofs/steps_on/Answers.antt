-- comparing::steps_on: fewer places than are asked for, and neither input at its end.
use mathlib.Core.Path.{◌∙◌, sym}
use borrow.Author.Rules.{rules}
use borrow.Author.Tests.{le-ltb, lt-ltb}
use Rattle.comparing.proofs.steps_on.Goals as goal

pub returns-then-most-differing : goal.returns-then-most-differing
returns-then-most-differing c = rw (le-ltb _ _ c.if-most-differing.true)

pub returns-then-at_end : goal.returns-then-at_end
returns-then-at_end c = rw (lt-ltb _ _ c.if-most-differing.false, sym c.at_end.ensures ∙ c.if-at_end.true)

pub returns : goal.returns
returns c = rw (lt-ltb _ _ c.if-most-differing.false, sym c.at_end.ensures ∙ c.if-at_end.false, c.at_end-2.ensures)
