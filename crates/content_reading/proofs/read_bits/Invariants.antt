-- `content_reading::read_bits` meets its contract: before each turn the characters passed over are bits, and stand in the buffer in whole bytes.
use Prim.Native.Nat.{◌%◌, ◌-◌}
use mathlib.Core.Path.{◌≡◌}
use lib.ListN.{length}
use Rattle.content_reading.proofs.Packing.{BitsTo}
use Rattle.content_reading.proofs.read_bits.Given as goal

abbrev pub invariant-loop-at : goal.invariant-loop-at
invariant-loop-at l = BitsTo l.s l.from l.at l.initial.row l.first l.row l.o × ((l.at - l.from) % 8 ≡ 0)

abbrev pub decreases-loop-at : goal.decreases-loop-at
decreases-loop-at l = length l.s - l.at
