-- `content_passing::letters_in` meets its contract: before each turn all that was passed over are letters.
use Prim.Native.Nat.{◌+◌, ◌-◌, ◌<◌}
use mathlib.Core.Path.{◌≡◌}
use lib.ListN.{drop}
use Rattle.eights.specs.Marks.{is_letter, run}
use Rattle.content_passing.proofs.letters_in.Given as goal

abbrev pub invariant-loop-k : goal.invariant-loop-k
invariant-loop-k l = (l.k < l.n + 8) × (run is_letter (drop l.at l.s) ≡ l.k + run is_letter (drop (l.at + l.k) l.s))

abbrev pub decreases-loop-k : goal.decreases-loop-k
decreases-loop-k l = l.n + 8 - l.k
