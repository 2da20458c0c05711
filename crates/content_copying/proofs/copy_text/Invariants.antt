-- `content_copying::copy_text` meets its contract: before each turn the characters passed over stand in the buffer as they are written.
use Prim.Native.Nat.{◌-◌}
use lib.ListN.{length}
use Rattle.content_copying.proofs.Texts.{TextTo}
use Rattle.content_copying.proofs.copy_text.Given as goal

abbrev pub invariant-loop-from : goal.invariant-loop-from
invariant-loop-from l = TextTo l.s l.from l.at l.initial.row l.first l.row l.o l.count

abbrev pub decreases-loop-from : goal.decreases-loop-from
decreases-loop-from l = length l.s - l.at
