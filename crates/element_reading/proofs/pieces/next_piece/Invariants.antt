-- `element_reading::pieces::next_piece` meets its contract. The invariant: the letters passed over are a word so far, as what reads it holds it.
use Prim.Native.Nat.{◌-◌}
use lib.ListN.{length}
use Rattle.element_reading.proofs.Passing.{WordTo}
use Rattle.element_reading.proofs.pieces.next_piece.Given as goal

abbrev pub invariant-loop-next : goal.invariant-loop-next
invariant-loop-next g l = WordTo (g.W.Letters.stands l.word) l.source l.s l.from l.i

abbrev pub decreases-loop-next : goal.decreases-loop-next
decreases-loop-next g l = length l.s - l.i
