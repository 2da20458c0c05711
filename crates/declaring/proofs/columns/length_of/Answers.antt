-- declaring::columns::length_of: a length: what the digits that are left make of `n` is what all of them make.
use Prim.Native.Nat.{◌≤◌}
use Rattle.declaring.proofs.columns.Numerals.{capped, capped-more, capped-no, capped-yes, digits-grow}
use Rattle.declaring.proofs.columns.Numerals.{length-long, length_none, length-numeral, length-zero, numeral-end, numeral-more, numeral-no}
use Rattle.fields.specs.Fields.{length_of}
use Rattle.number.specs.Number.{Unwritten, digit, numeral}
use borrow.Author.Tests.{eqb-false, eqb-true}
use lib.ListN.{drop, get_or}
use mathlib.Core.Path.{◌∙◌, ◌≡◌, ap, sym}
use native.Mathlib.Omega.{arith}
use Rattle.declaring.proofs.columns.length_of.Goals.{then-is_empty-via-then-is_empty, then-is_empty-via-else-is_empty+then-t-gt4, then-is_empty-via-else-is_empty+else-t-gt4+then-t-eq48}
use Rattle.declaring.proofs.columns.length_of.Goals as goal

pub returns-then-is_empty : goal.returns-then-is_empty
returns-then-is_empty c =
    elim c.then-is_empty.branch [
      | then-is_empty-via-then-is_empty w ↦ length_none _ (eqb-true _ 0 (sym c.is_empty.ensures ∙ w.if-is_empty.true))
      | then-is_empty-via-else-is_empty+then-t-gt4 w ↦ length-long _ w.if-t-gt4.true
      | then-is_empty-via-else-is_empty+else-t-gt4+then-t-eq48 w ↦
          length-zero _ (let some = eqb-false _ 0 (sym c.is_empty.ensures ∙ w.if-is_empty.false) in omega (arith, some)) w.if-t-eq48.true
    ]

pub returns-then-not-is_ascii_digit : goal.returns-then-not-is_ascii_digit
returns-then-not-is_ascii_digit c =
    let some = eqb-false _ 0 (sym c.is_empty.ensures ∙ c.if-is_empty.false) in
    let whole : length_of c.args.t.now ≡ capped (numeral digit 10 c.loop-c.n (drop c.loop-c.c-index c.args.t.now)) =
    length-numeral c.args.t.now (omega (arith, some)) c.if-t-gt4.false c.if-t-eq48.false ∙ ap capped c.loop-c.invariant.1 in
    whole ∙ capped-no _ Unwritten (numeral-no _ _ _ c.loop-c-test.true (λ h k. grind arith))

pub loop-c-preserved : goal.loop-c-preserved
loop-c-preserved c =
    let d = get_or c.args.t.now c.loop-c.c-index 0 in
    let low : 48 ≤ d = grind arith in
    let high : d ≤ 57 = grind arith in (
      digits-grow c.loop-c.n c.loop-c.c-index _ c.loop-c.invariant.0 (omega (arith, high)),
      c.loop-c.invariant.1 ∙ numeral-more _ _ _ c.loop-c-test.true low high,
    )

pub returns-then-n-le-MOST_ELEMENTS : goal.returns-then-n-le-MOST_ELEMENTS
returns-then-n-le-MOST_ELEMENTS c =
    let some = eqb-false _ 0 (sym c.is_empty.ensures ∙ c.if-is_empty.false) in
    let whole : length_of c.args.t.now ≡ capped (numeral digit 10 c.loop-c.n (drop c.loop-c.c-index c.args.t.now)) =
    length-numeral c.args.t.now (omega (arith, some)) c.if-t-gt4.false c.if-t-eq48.false ∙ ap capped c.loop-c.invariant.1 in
    whole ∙ capped-yes _ _ (numeral-end _ _ _ c.loop-c-test.false) c.if-n-le-MOST_ELEMENTS.true

pub returns : goal.returns
returns c =
    let some = eqb-false _ 0 (sym c.is_empty.ensures ∙ c.if-is_empty.false) in
    let whole : length_of c.args.t.now ≡ capped (numeral digit 10 c.loop-c.n (drop c.loop-c.c-index c.args.t.now)) =
    length-numeral c.args.t.now (omega (arith, some)) c.if-t-gt4.false c.if-t-eq48.false ∙ ap capped c.loop-c.invariant.1 in
    whole ∙ capped-more _ _ (numeral-end _ _ _ c.loop-c-test.false) c.if-n-le-MOST_ELEMENTS.false
