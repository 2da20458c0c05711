-- `character_reading::references::number_means` meets its contract. The invariant: the numeral is what its rest gives with the value so
-- far, which n digits keep below 16 ^ n.
use native.Mathlib.Omega.{arith}
use mathlib.Core.Path.{◌∙◌, ap}
use Rattle.table.specs.Result.{refused_as}
use Rattle.character_reading.proofs.references.Laws.{grows, numeral-bad, numeral-end, numeral-more, numeric-not, numeric-sized, small-base}
use Rattle.character_reading.proofs.references.number_means.Goals as goal
use Rattle.character_reading.proofs.references.number_means.Goals.{then-is_empty-via-then-is_empty, then-is_empty-via-else-is_empty+then-digits-gt8}

pub returns-then-is_empty : goal.returns-then-is_empty
returns-then-is_empty c = numeric-not c.args.hex _ (λ h k. elim c.then-is_empty.branch [
  | then-is_empty-via-then-is_empty v ↦ grind arith
  | then-is_empty-via-else-is_empty+then-digits-gt8 v ↦ omega arith
])

pub returns-then-base-digit : goal.returns-then-base-digit
returns-then-base-digit c =
    let l = c.loop-c in
    numeric-sized c.args.hex c.args.digits.now (grind arith) (omega arith)
    ∙ ap (refused_as (λ f. 10)) (l.invariant.1 ∙ numeral-bad c.args.hex _ _ _ _ c.loop-c-test.true c.digit_value-digit.ensures (omega (arith, c.base-base.ensures)))

pub loop-c-preserved : goal.loop-c-preserved
loop-c-preserved c =
    let l = c.loop-c in
    let d = c.digit_value-digit in
    rw c.base-base.ensures (
      grows c.args.hex l.value d.result l.c-index l.invariant.0 (small-base c.args.hex _ (omega (arith, c.base-base.ensures))),
      l.invariant.1 ∙ numeral-more c.args.hex l.value _ l.c-index _ c.loop-c-test.true d.ensures (omega (arith, c.base-base.ensures)),
    )

pub returns : goal.returns
returns c =
    numeric-sized c.args.hex c.args.digits.now (grind arith) (omega arith)
    ∙ ap (refused_as (λ f. 10)) (c.loop-c.invariant.1 ∙ numeral-end c.args.hex _ _ _ c.loop-c-test.false)
