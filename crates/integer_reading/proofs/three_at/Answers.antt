-- `integer_reading::three_at` meets its contract: by whether a second digit follows, and a third.
use native.Mathlib.Omega.{arith}
use mathlib.Core.Path.{◌∙◌, sym}
use Rattle.integer_reading.proofs.Digits.{figures-none, figures-three}
use Rattle.integer_reading.proofs.three_at.Goals as goal

pub returns-then-not-is_digit : goal.returns-then-not-is_digit
returns-then-not-is_digit c = (figures-none (omega arith), omega arith)

pub overflow_mul-two_digits : goal.overflow_mul-two_digits
overflow_mul-two_digits c = record { fits = omega (arith, c.figure-one_digit.ensures.1) }

pub overflow_add-two_digits : goal.overflow_add-two_digits
overflow_add-two_digits c = record { fits = omega (arith, c.figure-one_digit.ensures.1, c.figure.ensures.1) }

pub overflow_mul-three_digits : goal.overflow_mul-three_digits
overflow_mul-three_digits c = record { fits = omega (arith, c.figure-one_digit.ensures.1, c.figure.ensures.1) }

pub overflow_add-three_digits : goal.overflow_add-three_digits
overflow_add-three_digits c = record { fits = omega (arith, c.figure-one_digit.ensures.1, c.figure.ensures.1, c.figure-2.ensures.1) }

pub returns : goal.returns
returns c =
    let first = sym c.is_digit.ensures ∙ c.if-not-is_digit.false in
    let two = c.is_digit-two.ensures in let three = c.is_digit-three.ensures in
    let a = c.figure-one_digit.ensures.0 in let b = c.figure.ensures.0 in let d = c.figure-2.ensures.0 in
    figures-three _ _ _ _ (omega arith) first two three a b d c.pick.ensures c.pick-2.ensures c.pick-3.ensures c.pick-4.ensures
