-- `binary::read_characters` meets its contract. The loop's invariant is that of `read_truths`, over the bytes before the first NUL.
use Prim.Native.Nat.{◌≤◌}
use Rattle.binary.proofs.Loops.{onto}
use Rattle.binary.specs.Binary.{before_nul, element}
use Rattle.table.specs.Result.{every}
use Rattle.table.specs.Shape.{Text}
use lib.ListN.{drop, length, take}
use mathlib.Core.Path.{◌≡◌}
use Rattle.binary_reading.proofs.read_characters.Given as goal

abbrev pub invariant-loop-k : goal.invariant-loop-k
invariant-loop-k l =
    (l.k ≤ length l.part) × (length l.scratch ≡ length l.initial.scratch)
    × (every (element Text) (before_nul l.part) ≡ onto (take l.k l.scratch) (every (element Text) (before_nul (drop l.k l.part))))
