-- `content_showing::show_text` meets its contract: before each turn the first k bytes are put as what they show.
use Prim.Native.Nat.{◌-◌, ◌≤◌}
use lib.ListN.{drop, take}
use Rattle.content_showing.proofs.Text.{TextPut}
use Rattle.content_showing.proofs.show_text.Given as goal

abbrev pub invariant-loop-row : goal.invariant-loop-row
invariant-loop-row l = (l.k ≤ l.n) × TextPut (take l.n (drop l.at l.s)) l.initial.row l.o l.row l.e l.k

abbrev pub decreases-loop-row : goal.decreases-loop-row
decreases-loop-row l = l.n - l.k
