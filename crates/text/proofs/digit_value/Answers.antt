-- `text::digit_value` meets its contract: each range of `match` is a case of the definition.
use native.Mathlib.Omega.{arith}
use Rattle.text.proofs.Digits.{digit_low, digit-lower, digit-none, digit-upper}
use Rattle.text.proofs.digit_value.Goals as goal

pub returns-in-48-to-57 : goal.returns-in-48-to-57
returns-in-48-to-57 c = digit_low _ (omega arith) (omega arith)

pub returns-in-65-to-70 : goal.returns-in-65-to-70
returns-in-65-to-70 c = digit-upper _ (omega arith) (omega arith)

pub returns-in-97-to-102 : goal.returns-in-97-to-102
returns-in-97-to-102 c = digit-lower _ (omega arith) (omega arith)

pub returns-in_default : goal.returns-in_default
returns-in_default c = digit-none _ (omega arith) (omega arith) (omega arith)

pub returns-in_default-2 : goal.returns-in_default-2
returns-in_default-2 c = digit-none _ (omega arith) (omega arith) (omega arith)

pub returns-in_default-3 : goal.returns-in_default-3
returns-in_default-3 c = digit-none _ (omega arith) (omega arith) (omega arith)

pub returns-in_default-4 : goal.returns-in_default-4
returns-in_default-4 c = digit-none _ (omega arith) (omega arith) (omega arith)
