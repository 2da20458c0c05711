-- `tabledata_writing::chars_size` meets its contract. The invariant: the whole has the size so far and that of what is left.
use Prim.Native.Nat.{◌*◌, ◌+◌, ◌≤◌}
use mathlib.Core.Path.{◌≡◌}
use lib.ListN.{drop}
use Rattle.tabledata_writing.specs.Clauses.{size_with}
use Rattle.tabledata.specs.TableData.{forms}
use Rattle.tabledata_writing.proofs.chars_size.Given as goal

abbrev pub invariant-loop-z : goal.invariant-loop-z
invariant-loop-z l = (l.size ≤ 9 + 5 * l.z-index) × (size_with 9 (forms l.chars) ≡ size_with l.size (forms (drop l.z-index l.chars)))
