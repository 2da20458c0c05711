-- table::same_integer: two integers are the same where their bits are.
use Rattle.table.proofs.Nulls.{eq-bits}
use mir.Facts.{to_z-of_z}
use mir.Syntax.{w64}
use Rattle.table.proofs.same_integer.Goals as goal

pub returns : goal.returns
returns c = eq-bits _ _ (to_z-of_z {w = w64} c.ranges.a) (to_z-of_z {w = w64} c.ranges.b)
