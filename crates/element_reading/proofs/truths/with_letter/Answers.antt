-- `element_reading::truths::with_letter` meets its contract: too many letters, one that is not ASCII, or one digit more in base 256.
use Prim.Native.Nat.{◌*◌, ◌+◌, ℕ}
use native.Mathlib.Omega.{arith}
use mathlib.Core.Path.{◌∙◌, ap, sym}
use Rattle.element_reading.proofs.truths.Laws.{spell_high, spell-low, spell-wide}
use Rattle.element_reading.proofs.truths.with_letter.Goals as goal
use Rattle.element_reading.proofs.truths.with_letter.Goals.{then-word-ge281474976710656-via-then-word-ge281474976710656, then-word-ge281474976710656-via-else-word-ge281474976710656+then-c-ge128}

pub returns-then-word-ge281474976710656 : goal.returns-then-word-ge281474976710656
returns-then-word-ge281474976710656 c = elim c.then-word-ge281474976710656.branch [
  | then-word-ge281474976710656-via-then-word-ge281474976710656 v ↦ sym (spell_high _ _ v.if-word-ge281474976710656.true)
  | then-word-ge281474976710656-via-else-word-ge281474976710656+then-c-ge128 v ↦ sym (spell-wide _ _ v.if-c-ge128.true)
]

pub returns : goal.returns
returns c = ap (λ (n : ℕ). c.args.word * 256 + n) c.lower_case.ensures.0 ∙ sym (spell-low _ _ (omega arith) (omega arith))
