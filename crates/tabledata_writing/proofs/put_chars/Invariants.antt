-- `tabledata_writing::put_chars` meets its contract. The invariant: what is left of the characters is still to be written here.
use lib.ListN.{drop}
use Rattle.table.specs.Shape.{Text}
use Rattle.table.proofs.Wrote.{Left}
use Rattle.tabledata_writing.proofs.Writing.{char_form}
use Rattle.tabledata.specs.TableData.{element_bytes, joined}
use Rattle.tabledata_writing.proofs.put_chars.Given as goal

abbrev pub invariant-loop-z : goal.invariant-loop-z
invariant-loop-z l = Left l.initial.out l.at (element_bytes Text l.chars) l.out l.i (joined char_form (drop l.z-index l.chars))
