-- `content_copying::copy_truths` meets its contract: before each turn the words passed over stand in the buffer, a space behind each.
use Prim.Native.Nat.{◌-◌}
use lib.ListN.{length}
use Rattle.content_copying.proofs.Spaced.{Between}
use Rattle.table.specs.Shape.{Truths}
use Rattle.tabledata.specs.TableData.{truth_text}
use Rattle.content_copying.proofs.copy_truths.Given as goal

abbrev pub invariant-loop-z : goal.invariant-loop-z
invariant-loop-z l = Between Truths truth_text l.s l.from l.at l.initial.row l.first l.row l.o l.count

abbrev pub decreases-loop-z : goal.decreases-loop-z
decreases-loop-z l = length l.s - l.at
