-- `base64_coding::decoding::fours_end` meets its contract. The invariant: fours of letters stand up to the place that was reached.
use Prim.Native.Nat.{◌-◌, ◌≤◌}
use lib.ListN.{length}
use Rattle.base64_coding.specs.Clauses.{LettersTo}
use Rattle.base64_coding.proofs.decoding.fours_end.Given as goal

abbrev pub invariant-loop-i : goal.invariant-loop-i
invariant-loop-i l = (l.i ≤ length l.s) × LettersTo l.s l.from l.i

abbrev pub decreases-loop-i : goal.decreases-loop-i
decreases-loop-i l = length l.s - l.i
