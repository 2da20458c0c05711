-- `element_reading::chars::copy_plain` meets its contract. The invariant: the text passed over is its own elements, which follow those
-- there were.
use Prim.Native.Nat.{◌+◌, ◌-◌}
use mathlib.Core.Path.{◌≡◌}
use lib.ListN.{length}
use Rattle.element_reading.specs.Elements.{Copied}
use Rattle.element_reading.proofs.chars.copy_plain.Given as goal

-- k counts with the characters: so far, what the function promises
abbrev pub invariant-loop-i : goal.invariant-loop-i
invariant-loop-i l = (l.k ≡ l.count + (l.i - l.from)) × Copied l.s l.from l.count l.initial.scratch l.scratch l.i

abbrev pub decreases-loop-i : goal.decreases-loop-i
decreases-loop-i l = length l.s - l.i
