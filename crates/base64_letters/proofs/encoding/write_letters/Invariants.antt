-- `base64_letters::encoding::write_letters` meets its contract. The invariant: what is left, stored from o on, makes the whole.
use Prim.Native.Nat.{◌*◌}
use lib.ListN.{drop}
use Rattle.base64_letters.proofs.Coding.{Kept}
use Rattle.base64_letters.proofs.encoding.write_letters.Given as goal

abbrev pub invariant-loop-a : goal.invariant-loop-a
invariant-loop-a l = Kept l.s l.initial.out (drop (l.a-index * 3) l.s) l.out l.o
