-- `content_passing::truth_letter` meets its contract: what the tests sum to is the letter, of every byte.
use native.Mathlib.Omega.{arith}
use Rattle.content_passing.proofs.Letters.{flag-le, is_false, is_true, is_unknown, letter-is}
use Rattle.content_passing.proofs.truth_letter.Goals as goal

pub overflow_mul-result : goal.overflow_mul-result
overflow_mul-result c = record { fits = omega (arith, flag-le (is_true c.args.b)) }

pub overflow_mul-result-2 : goal.overflow_mul-result-2
overflow_mul-result-2 c = record { fits = omega (arith, flag-le (is_false c.args.b)) }

pub overflow_add-result : goal.overflow_add-result
overflow_add-result c = record { fits = omega (arith, flag-le (is_true c.args.b), flag-le (is_false c.args.b)) }

pub overflow_mul-result-3 : goal.overflow_mul-result-3
overflow_mul-result-3 c = record { fits = omega (arith, flag-le (is_unknown c.args.b)) }

pub overflow_add-result-2 : goal.overflow_add-result-2
overflow_add-result-2 c = record { fits = omega (arith, flag-le (is_true c.args.b), flag-le (is_false c.args.b), flag-le (is_unknown c.args.b)) }

pub returns : goal.returns
returns c = letter-is c.args.b c.ranges.b.fits
