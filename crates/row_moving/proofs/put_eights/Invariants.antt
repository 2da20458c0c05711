-- `row_moving::put_eights` meets its contract: before each turn the first k bytes are put, and the last eight go over those of them that are among these.
use Prim.Native.Nat.{◌-◌, ◌≤◌}
use mathlib.Core.Path.{◌≡◌}
use lib.ListN.{length, take}
use lib.Seq.{sets}
use Rattle.row_moving.proofs.put_eights.Given as goal

abbrev pub invariant-loop-k : goal.invariant-loop-k
invariant-loop-k l = ((l.k ≤ l.size) × (length l.out ≡ length l.initial.out)) × (l.out ≡ sets l.initial.out l.at (take l.k l.row))

abbrev pub decreases-loop-k : goal.decreases-loop-k
decreases-loop-k l = l.size - l.k
