-- `text::skip_white` meets its contract. The invariant: white space is skipped to the same rest from here on.
use mathlib.Core.Path.{◌∙◌, refl, sym}
use borrow.Author.Rules.{rules}
use native.Mathlib.Omega.{arith}
use Rattle.text.proofs.Scan.{skip-all, skip-here, skip-more}
use Rattle.text.proofs.skip_white.Goals as goal

pub loop-i-init : goal.loop-i-init
loop-i-init c = (search rules, search rules, refl)

pub loop-i-preserved : goal.loop-i-preserved
loop-i-preserved c = (search rules, search rules, c.loop-i.invariant.2 ∙ skip-more _ _ c.loop-i-test.true (sym c.is_white.ensures ∙ c.if-not-is_white.false) (omega arith))

pub returns-then-not-is_white : goal.returns-then-not-is_white
returns-then-not-is_white c =
    let inv = c.loop-i.invariant in
    record { rest = inv.2 ∙ skip-here _ _ c.loop-i-test.true (sym c.is_white.ensures ∙ c.if-not-is_white.true) (omega arith); low = inv.0; high = inv.1 }

pub returns : goal.returns
returns c =
    let inv = c.loop-i.invariant in
    record { rest = inv.2 ∙ skip-all _ _ c.loop-i-test.false; low = c.requires; high = omega arith }
