-- `base64_coding::decoding::decoded_size` meets its contract. The invariant: the whole gives as many bytes as n and what is left.
use mathlib.Core.Path.{◌∙◌, ap, refl, sym}
use native.Mathlib.Omega.{arith}
use borrow.Author.Rules.{rules}
use Rattle.base64_coding.specs.Clauses.{decoded_size}
use Rattle.base64_coding.proofs.High.{high-refused, highest-low}
use Rattle.base64_coding.proofs.Turns.{counted, gave, gave-size, refused, size-end}
use Rattle.base64_coding.proofs.decoding.decoded_size.Goals as goal

pub returns-then-highest-ge128 : goal.returns-then-highest-ge128
unfolding decoded_size
returns-then-highest-ge128 c = let high = c.highest.ensures in sym (ap (decoded_size 0) (high-refused c.args.s.now (omega arith)))

pub loop-i-init : goal.loop-i-init
loop-i-init c = let high = c.highest.ensures in (omega arith, omega arith, highest-low 0 c.args.s.now (omega arith), refl)

pub returns-in_default : goal.returns-in_default
unfolding decoded_size
returns-in_default c =
    let l = counted c.skip_white-from.ensures c.fours_end-i.ensures c.loop-i.invariant.1 c.loop-i.invariant.3 in
    sym (l.whole ∙ ap (decoded_size _) (refused _ _ _ c.next_four.ensures c.in_default.is))

pub overflow_add-n-then-i-from : goal.overflow_add-n-then-i-from
overflow_add-n-then-i-from c =
    let l = counted c.skip_white-from.ensures c.fours_end-i.ensures c.loop-i.invariant.1 c.loop-i.invariant.3 in
    let g = gave _ _ _ c.in-Some.four c.next_four.ensures c.in-Some.is (search rules) in
    let few = l.few in let far = g.far in let end = g.within in omega arith

pub returns-then-four-lt3 : goal.returns-then-four-lt3
returns-then-four-lt3 c =
    let l = counted c.skip_white-from.ensures c.fours_end-i.ensures c.loop-i.invariant.1 c.loop-i.invariant.3 in
    let g = gave _ _ _ c.in-Some.four c.next_four.ensures c.in-Some.is (search rules) in
    sym (gave-size g _ _ l.whole ∙ size-end _ _ (g.last c.if-four-lt3.true))

pub loop-i-preserved-else-four-lt3 : goal.loop-i-preserved-else-four-lt3
loop-i-preserved-else-four-lt3 c =
    let l = counted c.skip_white-from.ensures c.fours_end-i.ensures c.loop-i.invariant.1 c.loop-i.invariant.3 in
    let g = gave _ _ _ c.in-Some.four c.next_four.ensures c.in-Some.is (search rules) in
    let few = l.few in let far = g.far in (g.within, omega arith, c.loop-i.invariant.2, gave-size g _ _ l.whole)

pub loop-i-preserved : goal.loop-i-preserved
loop-i-preserved c = let l = counted c.skip_white-from.ensures c.fours_end-i.ensures c.loop-i.invariant.1 c.loop-i.invariant.3 in (l.within, l.few, c.loop-i.invariant.2, l.whole)
