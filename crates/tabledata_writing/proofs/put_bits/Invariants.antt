-- `tabledata_writing::put_bits` meets its contract. The invariant: what is left of the bits is still to be written here.
use mathlib.Core.List.{[], ◌∷◌}
use lib.ListN.{drop}
use Rattle.table.specs.Shape.{Bits}
use Rattle.table.proofs.Wrote.{Left}
use Rattle.tabledata.specs.TableData.{bit_text, element_bytes, joined}
use Rattle.tabledata_writing.proofs.put_bits.Given as goal

abbrev pub invariant-loop-z : goal.invariant-loop-z
invariant-loop-z l = Left l.initial.out l.at (element_bytes Bits l.bits) l.out l.i (joined (λ z. bit_text z ∷ []) (drop l.z-index l.bits))
