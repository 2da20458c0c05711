-- `lowest::decimal_lowest` meets its contract: pairs, fours and all eight (decimal-is); and no product or sum passes its type, since the mask before it
-- bounds what it is made of, whatever the number.
use native.Mathlib.Omega.{arith}
use Rattle.lowest.proofs.Decimal.{decimal-is, fours-le, halves-le, halves_of, pairs-le, pairs_of}
use Rattle.lowest.proofs.decimal_lowest.Goals as goal

pub overflow_mul-a : goal.overflow_mul-a
overflow_mul-a c = record { fits = omega (arith, halves-le c.args.x) }

pub overflow_add-a : goal.overflow_add-a
overflow_add-a c = record { fits = omega (arith, halves-le c.args.x) }

pub overflow_mul-b : goal.overflow_mul-b
overflow_mul-b c = record { fits = omega (arith, pairs-le (halves_of c.args.x)) }

pub overflow_add-b : goal.overflow_add-b
overflow_add-b c = record { fits = omega (arith, pairs-le (halves_of c.args.x)) }

pub overflow_mul-result : goal.overflow_mul-result
overflow_mul-result c = record { fits = omega (arith, fours-le (pairs_of (halves_of c.args.x))) }

pub overflow_add-result : goal.overflow_add-result
overflow_add-result c = record { fits = omega (arith, fours-le (pairs_of (halves_of c.args.x))) }

pub returns : goal.returns
returns c = decimal-is c.args.x
