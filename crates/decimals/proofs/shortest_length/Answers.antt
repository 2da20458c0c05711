-- `decimals::shortest_length` meets its contract: the digits of the magnitude, and one for the sign.
use mathlib.Core.Path.{◌∙◌, ap}
use native.Mathlib.Numerals.{add-one}
use Prim.Native.Nat.{◌+◌, ℕ}
use lib.ListN.{length}
use Rattle.decimals.proofs.Numerals.{text-down, text-up}
use Rattle.number.proofs.Laws.{digits_are}
use native.Mathlib.Omega.{arith}
use Rattle.decimals.proofs.shortest_length.Goals as goal

pub overflow_add-result : goal.overflow_add-result
overflow_add-result c = omega (arith, c.digit_count-count.ensures, (digits_are 20 c.unsigned_abs.result).1)

pub returns-then-z-ge0 : goal.returns-then-z-ge0
returns-then-z-ge0 c = c.digit_count-count.ensures ∙ ap length (text-up c.args.z _ c.ranges.z c.unsigned_abs.ensures.value c.if-z-ge0.true)

pub returns-else-z-ge0 : goal.returns-else-z-ge0
returns-else-z-ge0 c =
    ap (λ (n : ℕ). n + 1) c.digit_count-count.ensures ∙ add-one _
    ∙ ap length (text-down c.args.z _ c.ranges.z c.unsigned_abs.ensures.value c.if-z-ge0.false)
