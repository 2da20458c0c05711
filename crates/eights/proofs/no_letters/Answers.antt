-- `eights::no_letters` meets its contract: byte by byte, and of a byte by computation.
use lib.Bits.{and_le_r}
use Rattle.eights.proofs.Lanes.{letters-marked}
use native.Mathlib.Omega.{arith}
use Rattle.eights.proofs.no_letters.Goals as goal

pub overflow_add-result : goal.overflow_add-result
overflow_add-result c = record { fits = omega (arith, and_le_r c.args.x 9187201950435737471) }

pub returns : goal.returns
returns c = record { marked = letters-marked c.args.x }
