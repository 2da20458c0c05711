-- `base64_coding::decoding::fours_end` meets its contract. The invariant: fours of letters stand up to the place that was reached.
use mathlib.Core.Path.{◌∙◌, ap}
use Rattle.base64_coding.specs.Clauses.{four_sum}
use Rattle.base64_coding.proofs.Plain.{bounded, by-sum, fours-more, fours-none}
use borrow.Author.Rules.{rules}
use native.Mathlib.Omega.{arith}
use Rattle.base64_coding.proofs.decoding.fours_end.Goals as goal

pub loop-i-init : goal.loop-i-init
loop-i-init c = (search rules, fours-none _ _ (search rules))

pub four_values-requires : goal.four_values-requires
four_values-requires c = (omega arith, c.requires.1)

pub four_sum-requires : goal.four_sum-requires
four_sum-requires c = bounded _ _ _ c.four_values.ensures

pub returns-then-four_sum-ge256 : goal.returns-then-four_sum-ge256
returns-then-four_sum-ge256 c = c.loop-i.invariant.1

pub loop-i-preserved : goal.loop-i-preserved
loop-i-preserved c =
    let sum = c.four_sum.ensures ∙ ap four_sum c.four_values.ensures in
    (omega arith, fours-more _ _ _ c.loop-i.invariant.1 (omega arith) (by-sum _ _ _ sum (omega arith)))

pub returns : goal.returns
returns c = c.loop-i.invariant.1
