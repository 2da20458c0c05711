-- `element_reading::bits::bits` meets its contract. The invariant: what was passed over has one word so far, of the bits in the scratch.
use Prim.Native.Nat.{◌-◌}
use lib.ListN.{length}
use Rattle.element_reading.proofs.bits.Laws.{BitsTo}
use Rattle.element_reading.proofs.elements.Laws.{ReadTo}
use Rattle.element_reading.proofs.bits.bits.Given as goal

abbrev pub invariant-loop-next : goal.invariant-loop-next
invariant-loop-next l = ReadTo (BitsTo l.closed l.count) l.source l.s l.from l.i l.count l.initial.scratch l.scratch

abbrev pub decreases-loop-next : goal.decreases-loop-next
decreases-loop-next l = length l.s - l.i
