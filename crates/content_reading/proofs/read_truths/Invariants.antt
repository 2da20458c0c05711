-- `content_reading::read_truths` meets its contract: before each turn the words passed over stand in the buffer, one byte each.
use Prim.Native.Nat.{◌-◌}
use lib.ListN.{length}
use Rattle.binary.specs.Binary.{number}
use Rattle.content_reading.proofs.Words.{WordsTo}
use Rattle.table.specs.Shape.{Truths}
use Rattle.tabledata.specs.TableData.{truth_word}
use Rattle.content_reading.proofs.read_truths.Given as goal

abbrev pub invariant-loop-at : goal.invariant-loop-at
invariant-loop-at l = WordsTo truth_word (number Truths) 1 l.s l.from l.at l.initial.row l.first l.row l.o l.count

abbrev pub decreases-loop-at : goal.decreases-loop-at
decreases-loop-at l = length l.s - l.at
