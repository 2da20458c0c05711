-- `element_reading::truths::truths` meets its contract. The invariant: the words passed over are the elements so far, or the
-- first bad one has the reason that is held.
use Prim.Native.Nat.{◌-◌}
use lib.ListN.{length}
use Rattle.tabledata.specs.TableData.{truth_word}
use Rattle.element_reading.proofs.Words.{WordsTo}
use Rattle.element_reading.proofs.truths.truths.Given as goal

abbrev pub invariant-loop-word : goal.invariant-loop-word
invariant-loop-word l = WordsTo truth_word l.source l.s l.from l.i l.bad l.count l.initial.scratch l.scratch

abbrev pub decreases-loop-word : goal.decreases-loop-word
decreases-loop-word l = length l.s - l.i
