-- declaring::attributes::read_attributes: the attributes of a tag: what is noted so far, and what is gathered from here on, is the whole.
use Prim.Native.Nat.{◌-◌, ◌≤◌}
use Rattle.declaring.proofs.attributes.Tallies.{Going}
use Rattle.declaring.specs.Readers.{TallyIn}
use lib.ListN.{length}
use Rattle.declaring.proofs.attributes.read_attributes.Given as goal

abbrev pub invariant-loop-at : goal.invariant-loop-at
invariant-loop-at l = (l.from ≤ l.at) × (l.at ≤ length l.s) × TallyIn l.s l.tally × Going l.s l.from l.at l.tally

abbrev pub decreases-loop-at : goal.decreases-loop-at
decreases-loop-at l = length l.s - l.at
