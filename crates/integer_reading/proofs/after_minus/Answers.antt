-- `integer_reading::after_minus` meets its contract: a minus is passed over where the kind has a sign.
use native.Mathlib.Omega.{arith}
use Rattle.integer_reading.specs.Figures.{a-minus, no_minus}
use Rattle.integer_reading.proofs.after_minus.Goals as goal

pub returns-then-s-at-eq45 : goal.returns-then-s-at-eq45
returns-then-s-at-eq45 c = a-minus (c.if-not-signed.false) (omega arith) c.if-s-at-eq45.true

pub returns-then-not-signed : goal.returns-then-not-signed
returns-then-not-signed c = no_minus

pub returns : goal.returns
returns c = no_minus
