-- `content_showing::reference_word` meets its contract: by computation over the bytes. What fits as a sum fits in parts.
use lib.Dec.{eqb}
use Rattle.content_showing.proofs.Text.{bit_le, word-is}
use native.Mathlib.Omega.{arith}
use Rattle.content_showing.proofs.reference_word.Goals as goal

pub overflow_add-result-5 : goal.overflow_add-result-5
overflow_add-result-5 c =
    let b = c.args.b in
    record { fits = omega (arith, bit_le (eqb b 38), bit_le (eqb b 60), bit_le (eqb b 62), bit_le (eqb b 13), bit_le (eqb b 9), bit_le (eqb b 10)) }

pub returns : goal.returns
returns c = word-is c.args.b c.ranges.b.fits

pub overflow_mul-result : goal.overflow_mul-result
overflow_mul-result c = record { fits = omega (arith, (overflow_add-result-5 c).fits) }

pub overflow_mul-result-2 : goal.overflow_mul-result-2
overflow_mul-result-2 c = record { fits = omega (arith, (overflow_add-result-5 c).fits) }

pub overflow_add-result : goal.overflow_add-result
overflow_add-result c = record { fits = omega (arith, (overflow_add-result-5 c).fits) }

pub overflow_mul-result-3 : goal.overflow_mul-result-3
overflow_mul-result-3 c = record { fits = omega (arith, (overflow_add-result-5 c).fits) }

pub overflow_add-result-2 : goal.overflow_add-result-2
overflow_add-result-2 c = record { fits = omega (arith, (overflow_add-result-5 c).fits) }

pub overflow_mul-result-4 : goal.overflow_mul-result-4
overflow_mul-result-4 c = record { fits = omega (arith, (overflow_add-result-5 c).fits) }

pub overflow_add-result-3 : goal.overflow_add-result-3
overflow_add-result-3 c = record { fits = omega (arith, (overflow_add-result-5 c).fits) }

pub overflow_mul-result-5 : goal.overflow_mul-result-5
overflow_mul-result-5 c = record { fits = omega (arith, (overflow_add-result-5 c).fits) }

pub overflow_add-result-4 : goal.overflow_add-result-4
overflow_add-result-4 c = record { fits = omega (arith, (overflow_add-result-5 c).fits) }

pub overflow_mul-result-6 : goal.overflow_mul-result-6
overflow_mul-result-6 c = record { fits = omega (arith, (overflow_add-result-5 c).fits) }
