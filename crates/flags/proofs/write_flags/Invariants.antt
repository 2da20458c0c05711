-- `flags::write_flags` meets its contract. The loop's invariant: the bytes that are left, put from here on, make the whole.
use Prim.Native.Nat.{◌+◌, ◌-◌}
use Rattle.number.specs.Number.{to_digits}
use lib.ListN.{length}
use lib.Seq.{sets}
use mathlib.Core.Path.{◌≡◌}
use Rattle.flags.proofs.write_flags.Given as goal

abbrev pub invariant-loop-k : goal.invariant-loop-k
invariant-loop-k l =
    (length l.out ≡ length l.initial.out) × (sets l.out (l.at + l.k) (to_digits 256 (l.n - l.k) l.x) ≡ sets l.initial.out l.at (to_digits 256 l.n l.x))
