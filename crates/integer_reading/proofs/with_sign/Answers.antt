-- `integer_reading::with_sign` meets its contract: the number, or what is as far below 0.
use native.Mathlib.Omega.{arith}
use mir.Facts.{to_z_pos}
use mir.Syntax.{w64}
use Rattle.number.proofs.Signed.{less-fits, negated}
use Rattle.number.specs.Number.{with_sign}
use Rattle.integer_reading.proofs.with_sign.Goals as goal

pub overflow_sub-result : goal.overflow_sub-result
overflow_sub-result c = search (less-fits w64 c.args.number (omega arith))

pub returns-then-minus : goal.returns-then-minus
unfolding with_sign
returns-then-minus c = rw c.if-minus.true (negated w64 c.args.number (omega arith))

pub returns : goal.returns
unfolding with_sign
returns c = rw c.if-minus.false (to_z_pos w64 (omega arith))
