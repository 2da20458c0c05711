-- `binary_writing::put_bits` meets its contract. The invariant: what is left of the bits is still to be written here.
use Prim.Native.Nat.{◌*◌}
use Rattle.binary.specs.Binary.{bit_of, pack}
use Rattle.table.proofs.Wrote.{Left}
use lib.ListN.{drop}
use mathlib.Core.List.{map}
use Rattle.binary_writing.proofs.put_bits.Given as goal

abbrev pub invariant-loop-eight : goal.invariant-loop-eight
invariant-loop-eight l = Left l.initial.out l.at (pack (map bit_of l.bits)) l.out l.o (pack (drop (8 * l.eight-index) (map bit_of l.bits)))
