-- `content_copying::numeral_end` meets its contract: the run of digits, and which digit is its first.
use native.Mathlib.Omega.{arith}
use mathlib.Core.Path.{refl}
use Rattle.content_copying.proofs.Own.{first-large}
use Rattle.content_copying.proofs.numeral_end.Goals as goal

pub overflow_sub-n : goal.overflow_sub-n
overflow_sub-n c = c.run_end-end.ensures.low

pub returns-then-most-n : goal.returns-then-most-n
returns-then-most-n c = λ some. absurd (some refl)

pub returns-then-s-from-ne48 : goal.returns-then-s-from-ne48
returns-then-s-from-ne48 c = λ some.
    let p = c.run_end-end.ensures in
    record { run = p; some = omega (arith, p.low, some); few = omega arith; first = λ h. first-large p (omega (arith, p.low, some)) c.if-s-from-ne48.true }

pub returns-then-n-eq1 : goal.returns-then-n-eq1
returns-then-n-eq1 c = λ some.
    let p = c.run_end-end.ensures in
    record { run = p; some = omega (arith, p.low, some); few = omega arith; first = λ h. absurd (omega arith) }

pub returns : goal.returns
returns c = λ some. absurd (some refl)
