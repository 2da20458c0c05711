-- `content_passing::copy_many` meets its contract: before each turn the first k bytes are put.
use Prim.Native.Nat.{◌+◌}
use lib.ListN.{drop, take}
use Rattle.moving.specs.Puts.{Puts}
use Rattle.content_passing.proofs.copy_many.Given as goal

abbrev pub invariant-loop-k : goal.invariant-loop-k
invariant-loop-k l = Puts l.initial.row l.o (take l.k (drop l.from l.s)) l.row (l.o + l.k)
