-- `content_reading::run_end` meets its contract: the bytes passed over pass the test, eight more at a turn.
use Prim.Native.Nat.{◌-◌}
use lib.ListN.{length}
use Rattle.content_reading.specs.Passing.{PassTo}
use Rattle.content_reading.proofs.run_end.Given as goal

abbrev pub invariant-loop-at : goal.invariant-loop-at
invariant-loop-at g l = PassTo g.T.Test.passes l.s l.from l.at

abbrev pub decreases-loop-at : goal.decreases-loop-at
decreases-loop-at g l = length l.s - l.at
