-- `element_reading::numerals::integers` meets its contract. The invariant: the words passed over are the elements so far, or
-- the first bad one has the reason that is held; a word read at once adds its one element.
use Prim.Native.Nat.{◌-◌}
use lib.ListN.{length}
use Rattle.number.specs.Clauses.{is_signed, size}
use Rattle.tabledata.specs.TableData.{integer_word}
use Rattle.element_reading.proofs.Words.{WordsTo}
use Rattle.element_reading.proofs.numerals.integers.Given as goal

abbrev pub invariant-loop-z : goal.invariant-loop-z
invariant-loop-z l =
    WordsTo (integer_word (is_signed l.kind) (size l.kind)) l.source l.s l.from l.i l.bad l.count l.initial.scratch l.scratch

abbrev pub decreases-loop-z : goal.decreases-loop-z
decreases-loop-z l = length l.s - l.i
