-- `binary::read_bits` meets its contract. The loop's invariant: the bits of the bytes from k on, put from 8 * k on, make the whole. Then
-- the padding is the low bits of the last byte.
use Prim.Native.Nat.{◌*◌, ◌-◌, ◌≤◌}
use Rattle.binary.specs.Binary.{bits_of}
use lib.IntN.{pos}
use lib.ListN.{drop, length}
use lib.Seq.{sets}
use mathlib.Core.List.{map}
use mathlib.Core.Path.{◌≡◌}
use Rattle.binary_reading.proofs.read_bits.Given as goal

abbrev pub invariant-loop-k : goal.invariant-loop-k
invariant-loop-k l =
    (l.k ≤ length l.part) × (length l.scratch ≡ length l.initial.scratch)
    × (sets l.scratch (8 * l.k) (map pos (bits_of (drop l.k l.part))) ≡ sets l.initial.scratch 0 (map pos (bits_of l.part)))
