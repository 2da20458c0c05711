-- `eights::copy_wide` meets its contract: before each turn the first k bytes stand in the buffer; the last turn may copy more than are asked for.
use Prim.Native.Nat.{◌+◌, ◌-◌, ◌<◌}
use mathlib.Core.List.{◌++◌}
use mathlib.Core.Path.{◌≡◌}
use lib.ListN.{drop, length, take}
use Rattle.eights.proofs.copy_wide.Given as goal

abbrev pub invariant-loop-k : goal.invariant-loop-k
invariant-loop-k l =
    ((l.k < l.n + 8) × (length l.row ≡ length l.initial.row)) × (take (l.o + l.k) l.row ≡ take l.o l.initial.row ++ take l.k (drop l.from l.s))

abbrev pub decreases-loop-k : goal.decreases-loop-k
decreases-loop-k l = l.n + 8 - l.k
