-- `content_showing::text_run` meets its contract: before each turn the first k bytes are written as themselves.
use Prim.Native.Nat.{◌+◌, ◌-◌, ◌<◌, ◌≤◌}
use lib.ListN.{drop}
use Rattle.content_showing.specs.Showing.{is_itself}
use Rattle.eights.specs.Marks.{run}
use Rattle.content_showing.proofs.text_run.Given as goal

abbrev pub invariant-loop-k : goal.invariant-loop-k
invariant-loop-k l = (l.k < l.n + 8) × (l.k ≤ run is_itself (drop l.at l.s))

abbrev pub decreases-loop-k : goal.decreases-loop-k
decreases-loop-k l = l.n + 8 - l.k
