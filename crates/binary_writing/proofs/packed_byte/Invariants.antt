-- `binary_writing::packed_byte` meets its contract. The invariant: the bits that are left, behind those in b, spell the whole number.
use Prim.Native.Nat.{◌<◌, ◌^◌}
use Rattle.binary.specs.Binary.{bit_of}
use Rattle.number.specs.Number.{of_digits}
use lib.ListN.{drop}
use mathlib.Core.List.{map}
use mathlib.Core.Path.{◌≡◌}
use Rattle.binary_writing.proofs.packed_byte.Given as goal

abbrev pub invariant-loop-z : goal.invariant-loop-z
invariant-loop-z l = (l.b < 2 ^ l.z-index) × (of_digits 2 l.b (map bit_of (drop l.z-index l.bits)) ≡ of_digits 2 0 (map bit_of l.bits))
