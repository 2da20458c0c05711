-- `base64_coding::decoding::write_fours` meets its contract. The invariant: the bytes of the fours of letters up to the place that was reached
-- are stored; that there is room for those of the next four follows from all that the text gives.
use Prim.Native.Nat.{◌-◌, ◌≤◌}
use mathlib.Core.Path.{◌≡◌}
use lib.ListN.{length}
use Rattle.base64_coding.proofs.Plain.{Stored}
use Rattle.base64_coding.proofs.decoding.write_fours.Given as goal

abbrev pub invariant-loop-i : goal.invariant-loop-i
invariant-loop-i l = (l.i ≤ length l.s) × (length l.out ≡ length l.initial.out) × Stored l.s l.initial.out l.from l.n l.i l.o l.out

abbrev pub decreases-loop-i : goal.decreases-loop-i
decreases-loop-i l = length l.s - l.i
