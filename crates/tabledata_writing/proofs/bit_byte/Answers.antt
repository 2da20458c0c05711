-- `tabledata_writing::bit_byte` meets its contract: `1` for the element 1, `0` for any other.
use mathlib.Core.Path.{ap, refl}
use lib.IntN.{pos}
use mir.Facts.{to_z-of_z}
use mir.Syntax.{w64}
use mir.Val.{of_z}
use Rattle.tabledata_writing.proofs.Writing.{bit-one, bit-other, equal-bits}
use Rattle.tabledata_writing.proofs.bit_byte.Goals as goal

pub returns-then-z-eq1 : goal.returns-then-z-eq1
returns-then-z-eq1 c = bit-one c.args.z (equal-bits c.args.z (pos 1) (to_z-of_z {w = w64} c.ranges.z) refl c.if-z-eq1.true)

pub returns-else-z-eq1 : goal.returns-else-z-eq1
returns-else-z-eq1 c = bit-other c.args.z (λ e. c.if-z-eq1.false (ap (of_z w64) e))
