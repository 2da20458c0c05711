-- `content_reading::read_text` meets its contract: before each turn the characters passed over stand in the buffer.
use Prim.Native.Nat.{◌-◌}
use lib.ListN.{length}
use Rattle.content_reading.proofs.Chars.{TextTo}
use Rattle.content_reading.proofs.read_text.Given as goal

abbrev pub invariant-loop-from : goal.invariant-loop-from
invariant-loop-from l = TextTo l.s l.from l.at l.initial.row l.first l.row l.o

abbrev pub decreases-loop-from : goal.decreases-loop-from
decreases-loop-from l = length l.s - l.at
