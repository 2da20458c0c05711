-- `base64_coding::decoding::highest` meets its contract. The invariant: the highest of all bytes is that of the most so far and of what is left.
use mathlib.Core.Bool.{cond}
use mathlib.Core.Path.{◌∙◌, ◌≡◌, sym}
use lib.Dec.{ltb}
use lib.ListN.{get_or}
use borrow.Author.Tests.{le-ltb, lt-ltb}
use native.Mathlib.Omega.{arith}
use Rattle.base64_coding.proofs.High.{highest-end, highest-more}
use Rattle.base64_coding.proofs.decoding.highest.Goals as goal
use Rattle.base64_coding.proofs.decoding.highest.Goals.{else-most-c, then-most-c}

pub loop-c-preserved : goal.loop-c-preserved
loop-c-preserved c =
    let s = c.args.s.now in
    let most = c.loop-c.most in
    let byte = get_or s c.loop-c.c-index 0 in
    let step : c.if-most-c.most ≡ cond (ltb most byte) byte most =
    elim c.if-most-c.branch [
      | then-most-c w ↦ w.most-is ∙ rw (lt-ltb most byte w.if-most-c.true)
      | else-most-c w ↦ w.most-is ∙ rw (le-ltb most byte w.if-most-c.false)
    ] in
    c.loop-c.invariant ∙ highest-more s c.loop-c.c-index most c.if-most-c.most (omega arith) step

pub returns : goal.returns
returns c = sym (c.loop-c.invariant ∙ highest-end c.args.s.now c.loop-c.c-index c.loop-c.most (omega arith))
