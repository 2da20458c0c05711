-- `content_reading::run_end` meets its contract: the bytes passed over pass the test, eight more at a turn.
use native.Mathlib.Omega.{arith}
use Rattle.content_reading.proofs.Runs.{pass-eight, pass-more, pass-none}
use borrow.Author.Rules.{rules}
use Rattle.content_reading.proofs.run_end.Goals as goal

pub loop-at-init : goal.loop-at-init
loop-at-init g c = pass-none g.T.Test.passes _ _ (omega arith)

pub overflow_sub-s : goal.overflow_sub-s
overflow_sub-s g c = c.loop-at.invariant.high

pub ahead-n-requires : goal.ahead-n-requires
ahead-n-requires g c = omega (arith, c.loop-at.invariant.high)

pub overflow_add-result : goal.overflow_add-result
overflow_add-result g c =
    let h = (pass-more c.loop-at.invariant _ (omega (arith, c.loop-at.invariant.high)) c.ahead-n.ensures).0.high in search rules

pub returns-then-n-lt8 : goal.returns-then-n-lt8
returns-then-n-lt8 g c = (pass-more c.loop-at.invariant _ (omega (arith, c.loop-at.invariant.high)) c.ahead-n.ensures).0

pub overflow_add-at : goal.overflow_add-at
overflow_add-at g c = let h = c.loop-at.invariant.high in search rules

pub loop-at-smaller : goal.loop-at-smaller
loop-at-smaller g c = omega (arith, c.loop-at.invariant.high)

pub loop-at-preserved : goal.loop-at-preserved
loop-at-preserved g c = pass-eight c.loop-at.invariant _ (omega (arith, c.loop-at.invariant.high)) c.ahead-n.ensures (omega arith)

pub returns : goal.returns
returns g c = c.loop-at.invariant
