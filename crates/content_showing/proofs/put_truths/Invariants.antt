-- `content_showing::put_truths` meets its contract: before each turn the letters of the first k bytes are put.
use Prim.Native.Nat.{◌*◌, ◌+◌}
use lib.ListN.{drop, take}
use Rattle.content_showing.specs.Showing.{TruthsPut}
use Rattle.content_showing.proofs.put_truths.Given as goal

abbrev pub invariant-loop-k : goal.invariant-loop-k
invariant-loop-k l = TruthsPut (take l.k (drop l.at l.s)) l.initial.row l.o l.row (l.o + 2 * l.k) l.bad
