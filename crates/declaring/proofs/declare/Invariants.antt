-- declaring::declare: the whole text: the columns so far, in front of what is declared from here on, are what the text declares.
use Prim.Native.Nat.{◌-◌, ◌≤◌}
use Rattle.declaring.proofs.Stages.{Stage}
use lib.ListN.{length}
use Rattle.declaring.proofs.declare.Given as goal

abbrev pub invariant-loop-at : goal.invariant-loop-at
invariant-loop-at l = (l.at ≤ length l.text) × (l.columns.count ≤ 64) × Stage l.text l.at l.columns.count l.columns

abbrev pub decreases-loop-at : goal.decreases-loop-at
decreases-loop-at l = length l.text - l.at
