-- `eights::first_lowest` meets its contract: below the lowest mark eight zeros stand for each byte before it, and seven of its own.
use lib.Count.{trailing_le}
use Rattle.eights.proofs.Lowest.{first-is}
use native.Mathlib.Omega.{arith}
use Rattle.eights.proofs.first_lowest.Goals as goal

pub overflow_cast-result : goal.overflow_cast-result
overflow_cast-result c = record { fits = omega (arith, trailing_le 64 c.args.m) }

pub returns : goal.returns
returns c = record { first = λ test ds l e. omega (arith, first-is c.args.m test ds l e) }
