-- `words::quick_integer` meets its contract: with no minus it is the run of digits at the place; a kind without a sign declines a minus; and behind
-- a minus it is the run's number negated.
use native.Mathlib.Omega.{arith}
use Prim.Native.Nat.{ℕ}
use mathlib.Core.Path.{◌∙◌, ap, sym}
use lib.IntN.{ℤ}
use mir.Facts.{to_z_pos}
use mir.Syntax.{w64}
use Rattle.number.proofs.Signed.{less-fits, negated}
use Rattle.number.specs.Number.{with_sign}
use Rattle.std.specs.Prelude.{Option, Some}
use Rattle.words.proofs.QuickLaws.{quick-minus, quick-plain, quick-unsigned}
use Rattle.words.proofs.WordLaws.{top_lt}
use Rattle.words.proofs.quick_integer.Goals as goal

pub returns-in_err-number : goal.returns-in_err-number
returns-in_err-number c = c.from_residual.ensures ∙ c.in_err-number.ensures.run _ ∙ sym (quick-plain _ _ _ c.if-s-at-ne45.true)

pub overflow_cast-result : goal.overflow_cast-result
overflow_cast-result c = record { sfits = omega (arith, c.in_ok-number.ensures.small, top_lt c.args.kind) }

pub returns-then-s-at-ne45 : goal.returns-then-s-at-ne45
unfolding with_sign
returns-then-s-at-ne45 c =
    let r = c.in_ok-number in
    ap {B = Option (ℤ × ℕ)} (λ (z : ℤ). Some (z, r.next)) (to_z_pos w64 (omega (arith, r.ensures.small, top_lt c.args.kind)))
    ∙ r.ensures.run _ ∙ sym (quick-plain _ _ _ c.if-s-at-ne45.true)

pub returns-then-not-is_signed : goal.returns-then-not-is_signed
returns-then-not-is_signed c = sym (quick-unsigned _ _ _ c.if-s-at-ne45.false (sym c.is_signed.ensures ∙ c.if-not-is_signed.true))

pub returns-in_err-number-2 : goal.returns-in_err-number-2
returns-in_err-number-2 c =
    c.from_residual-in_err-number-2.ensures ∙ c.in_err-number-2.ensures.run _
    ∙ sym (quick-minus _ _ _ c.if-s-at-ne45.false (sym c.is_signed.ensures ∙ c.if-not-is_signed.false))

pub overflow_cast-result-2 : goal.overflow_cast-result-2
overflow_cast-result-2 c = record { sfits = omega (arith, c.in_ok-number-2.ensures.small, top_lt c.args.kind) }

pub overflow_sub-result : goal.overflow_sub-result
overflow_sub-result c = search (less-fits w64 c.in_ok-number-2.number (omega (arith, c.in_ok-number-2.ensures.small, top_lt c.args.kind)))

pub returns : goal.returns
unfolding with_sign
returns c =
    let r = c.in_ok-number-2 in
    ap {B = Option (ℤ × ℕ)} (λ (z : ℤ). Some (z, r.next)) (negated w64 r.number (omega (arith, r.ensures.small, top_lt c.args.kind)))
    ∙ r.ensures.run _ ∙ sym (quick-minus _ _ _ c.if-s-at-ne45.false (sym c.is_signed.ensures ∙ c.if-not-is_signed.false))
