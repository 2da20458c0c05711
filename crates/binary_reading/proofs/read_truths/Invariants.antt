-- `binary::read_truths` meets its contract. The loop's invariant: the elements of the whole part are those in the scratch, and behind
-- them what the bytes from k on give.
use Prim.Native.Nat.{◌≤◌}
use Rattle.binary.proofs.Loops.{onto}
use Rattle.binary.specs.Binary.{element}
use Rattle.table.specs.Result.{every}
use Rattle.table.specs.Shape.{Truths}
use lib.ListN.{drop, length, take}
use mathlib.Core.Path.{◌≡◌}
use Rattle.binary_reading.proofs.read_truths.Given as goal

abbrev pub invariant-loop-k : goal.invariant-loop-k
invariant-loop-k l =
    (l.k ≤ length l.part) × (length l.scratch ≡ length l.initial.scratch)
    × (every (element Truths) l.part ≡ onto (take l.k l.scratch) (every (element Truths) (drop l.k l.part)))
