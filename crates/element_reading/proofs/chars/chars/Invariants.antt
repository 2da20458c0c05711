-- `element_reading::chars::chars` meets its contract. The invariant: the characters passed over are the elements so far.
use Prim.Native.Nat.{◌-◌}
use lib.ListN.{length}
use Rattle.element_reading.proofs.chars.Laws.{CharsAre}
use Rattle.element_reading.proofs.elements.Laws.{ReadTo}
use Rattle.element_reading.proofs.chars.chars.Given as goal

abbrev pub invariant-loop-next : goal.invariant-loop-next
invariant-loop-next l = ReadTo CharsAre l.source l.s l.from l.i l.count l.initial.scratch l.scratch

abbrev pub decreases-loop-next : goal.decreases-loop-next
decreases-loop-next l = length l.s - l.i
