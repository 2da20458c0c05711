-- row_comparing::same_elements: whether the elements are the same is whether those from i on are (same_turn).
use Prim.Native.Nat.{◌-◌}
use mathlib.Core.Path.{◌≡◌}
use lib.ListN.{drop, take}
use Rattle.compare.specs.Compare.{same_elements}
use Rattle.row_comparing.proofs.same_elements.Given as goal

abbrev pub invariant-loop-i : goal.invariant-loop-i
invariant-loop-i l = same_elements (take l.n l.a) (take l.m l.b) ≡ same_elements (drop l.i (take l.n l.a)) (drop l.i (take l.n l.b))
