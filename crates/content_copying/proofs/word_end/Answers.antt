-- `content_copying::word_end` meets its contract: digits, or a minus and digits behind it.
use native.Mathlib.Omega.{arith}
use mathlib.Core.Path.{refl}
use Rattle.content_copying.proofs.Own.{first-large, own-down, own-up}
use Rattle.content_copying.proofs.word_end.Goals as goal

pub returns-then-s-at-ne45 : goal.returns-then-s-at-ne45
returns-then-s-at-ne45 c = λ some. own-up (c.numeral_end.ensures some) _ c.most_digits.ensures

pub returns-then-s-at-eq48 : goal.returns-then-s-at-eq48
returns-then-s-at-eq48 c = λ some. absurd (some refl)

pub returns-then-end-at : goal.returns-then-end-at
returns-then-end-at c = λ some. absurd (some refl)

pub returns : goal.returns
returns c = λ some.
    let r = c.numeral_end-end.ensures c.if-end-at.false in
    let q = c.most_after_minus.ensures in
    let big = first-large r.run r.some c.if-s-at-eq48.false in
    own-down r (omega arith) c.if-s-at-ne45.false big _ q.0 (q.1 (omega (arith, r.some, r.few)))
