-- comparing::note_row: the loop over columns. The row's places are those noted and those of the bits from i on; where no bit is set there are none.
use Prim.Native.Nat.{◌≤◌}
use Rattle.noting.proofs.Noting.{Noted}
use Rattle.number.specs.Number.{to_digits}
use Rattle.noting.proofs.note_row.Given as goal

abbrev pub invariant-loop-i : goal.invariant-loop-i
invariant-loop-i l = Noted l.row (to_digits 2 l.count l.differing) l.noted l.initial.places l.places l.n l.i × (l.i ≤ l.count)
