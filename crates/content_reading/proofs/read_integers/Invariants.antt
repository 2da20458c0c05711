-- `content_reading::read_integers` meets its contract: before each turn the words passed over stand in the buffer, each in the bytes of its kind.
use Prim.Native.Nat.{◌-◌}
use lib.ListN.{length}
use Rattle.binary.specs.Binary.{number}
use Rattle.content_reading.proofs.Words.{WordsTo}
use Rattle.number.specs.Clauses.{is_signed, size, width_of}
use Rattle.table.specs.Shape.{Whole}
use Rattle.tabledata.specs.TableData.{integer_word}
use Rattle.content_reading.proofs.read_integers.Given as goal

abbrev pub invariant-loop-at : goal.invariant-loop-at
invariant-loop-at l =
    WordsTo (integer_word (is_signed l.integer) (size l.integer)) (number (Whole (is_signed l.integer) (width_of l.integer))) (size l.integer) l.s l.from l.at l.initial.row l.first l.row l.o l.count

abbrev pub decreases-loop-at : goal.decreases-loop-at
decreases-loop-at l = length l.s - l.at
