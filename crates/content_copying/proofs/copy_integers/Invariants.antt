-- `content_copying::copy_integers` meets its contract, once over the width: before each turn the words passed over stand in the buffer, a space behind each.
use Prim.Native.Nat.{◌-◌}
use lib.ListN.{length}
use Rattle.content_copying.proofs.Spaced.{Between}
use Rattle.number.specs.Clauses.{is_signed, width_of}
use Rattle.number.specs.Number.{shortest}
use Rattle.number.specs.declared.Integer.{Integer}
use Rattle.table.specs.Shape.{Shape, Whole}
use Rattle.content_copying.proofs.copy_integers.Given as goal

abbrev pub kind : Integer → Shape
kind i = Whole (is_signed i) (width_of i)

abbrev pub invariant-loop-row : goal.invariant-loop-row
invariant-loop-row l = Between (kind l.integer) shortest l.s l.from l.at l.initial.row l.first l.row l.o l.count

abbrev pub decreases-loop-row : goal.decreases-loop-row
decreases-loop-row l = length l.s - l.at
