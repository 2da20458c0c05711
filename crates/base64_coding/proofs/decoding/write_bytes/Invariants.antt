-- `base64_coding::decoding::write_bytes` meets its contract. The invariant: what is left of the text, stored from n on, makes the whole.
use Prim.Native.Nat.{◌-◌}
use lib.ListN.{length}
use Rattle.base64_coding.proofs.Turns.{Storing}
use Rattle.base64_coding.proofs.decoding.write_bytes.Given as goal

abbrev pub invariant-loop-i : goal.invariant-loop-i
invariant-loop-i l = Storing l.s l.initial.out l.out l.i l.n

abbrev pub decreases-loop-i : goal.decreases-loop-i
decreases-loop-i l = length l.s - l.i
