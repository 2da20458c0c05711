-- `decimals::put_digits` meets its contract. The loop stores the last two digits first: what is still to store, with what is there, makes all.
use Prim.Native.Nat.{◌≤◌}
use mathlib.Core.Path.{◌≡◌}
use lib.ListN.{length}
use lib.Seq.{sets}
use Rattle.decimals.specs.Clauses.{numerals}
use Rattle.decimals.proofs.put_digits.Given as goal

abbrev pub invariant-loop-left : goal.invariant-loop-left
invariant-loop-left l =
    ((l.left ≤ l.n) × (length l.out ≡ length l.initial.out)) × (sets l.out l.at (numerals l.left l.v) ≡ sets l.initial.out l.at (numerals l.n l.x))

abbrev pub decreases-loop-left : goal.decreases-loop-left
decreases-loop-left l = l.left
