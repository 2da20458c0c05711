-- `character_reading::characters::spoiled` meets its contract. The invariant: the number is that of what is left.
use Prim.Native.Nat.{◌-◌, ◌≤◌}
use mathlib.Core.Path.{◌≡◌}
use lib.ListN.{drop, length}
use Rattle.character_reading.specs.Characters.{characters_of, spoiled_number}
use Rattle.character_reading.proofs.characters.spoiled.Given as goal

abbrev pub invariant-loop-reason : goal.invariant-loop-reason
invariant-loop-reason l = (l.i ≤ length l.s) × (spoiled_number (characters_of l.source (drop l.from l.s)) ≡ spoiled_number (characters_of l.source (drop l.i l.s)))

abbrev pub decreases-loop-reason : goal.decreases-loop-reason
decreases-loop-reason l = length l.s - l.i
