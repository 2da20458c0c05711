-- table::truth_byte: an element is compared by its bits.
use Rattle.table.specs.Cell.{truth_byte}
use Prim.Native.Nat.{suc, zero}
use lib.IntN.{negsuc, pos, ℤ}
use mathlib.Core.Path.{◌∙◌, ◌≡◌, ap, refl, sym}
use mir.Facts.{to_z-of_z}
use mir.Syntax.{w64}
use mir.Val.{of_z, to_z}
use Rattle.table.proofs.truth_byte.Goals as goal

unknown : (z : ℤ) → (z ≡ pos 0 → ⊥) → (z ≡ pos 1 → ⊥) → 63 ≡ truth_byte z
unfolding truth_byte
unknown (pos zero) h k = absurd (h refl)
unknown (pos (suc zero)) h k = absurd (k refl)
unknown (pos (suc (suc n))) h k = refl
unknown (negsuc n) h k = refl

pub returns-then-element-eq0 : goal.returns-then-element-eq0
unfolding truth_byte
returns-then-element-eq0 c = sym (ap truth_byte (sym (to_z-of_z {w = w64} c.ranges.element) ∙ ap (to_z w64) c.if-element-eq0.true))

pub returns-then-element-eq1 : goal.returns-then-element-eq1
unfolding truth_byte
returns-then-element-eq1 c = sym (ap truth_byte (sym (to_z-of_z {w = w64} c.ranges.element) ∙ ap (to_z w64) c.if-element-eq1.true))

pub returns : goal.returns
returns c = unknown _ (λ e. c.if-element-eq0.false (ap (of_z w64) e)) (λ e. c.if-element-eq1.false (ap (of_z w64) e))
