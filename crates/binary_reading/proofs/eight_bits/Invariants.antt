-- `binary::eight_bits` meets its contract. The loop's invariant: the bits that are left, put from here on, make the whole.
use Prim.Native.Nat.{◌+◌, ◌-◌}
use Rattle.number.specs.Number.{to_digits}
use lib.IntN.{pos}
use lib.ListN.{length}
use lib.Seq.{sets}
use mathlib.Core.List.{map}
use mathlib.Core.Path.{◌≡◌}
use Rattle.binary_reading.proofs.eight_bits.Given as goal

abbrev pub invariant-loop-k : goal.invariant-loop-k
invariant-loop-k l =
    (length l.scratch ≡ length l.initial.scratch) × (sets l.scratch (l.at + l.k) (map pos (to_digits 2 (8 - l.k) l.b)) ≡ sets l.initial.scratch l.at (map pos (to_digits 2 8 l.b)))
