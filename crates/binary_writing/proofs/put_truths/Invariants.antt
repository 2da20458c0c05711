-- `binary_writing::put_truths` meets its contract. The invariant: what is left of the truths is still to be written here.
use Rattle.table.proofs.Wrote.{Left}
use Rattle.table.specs.Cell.{truth_byte}
use lib.ListN.{drop}
use mathlib.Core.List.{map}
use Rattle.binary_writing.proofs.put_truths.Given as goal

abbrev pub invariant-loop-z : goal.invariant-loop-z
invariant-loop-z l = Left l.initial.out l.at (map truth_byte l.truths) l.out l.o (map truth_byte (drop l.z-index l.truths))
