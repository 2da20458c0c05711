-- `element_reading::truths::truths` meets its contract. The invariant: the words passed over are the elements so far, or the
-- first bad one has the reason that is held.
use mathlib.Core.Path.{sym}
use borrow.Author.Rules.{rules}
use Rattle.table.proofs.Failures.{handed-on}
use Rattle.table.specs.Shape.{Truths}
use Rattle.tabledata.specs.TableData.{truth_word}
use Rattle.element_reading.proofs.Words.{none-bad, piece-as, word_cut, word-last, words-broken, words-start}
use Rattle.element_reading.proofs.truths.Laws.{truths-are}
use Rattle.element_reading.proofs.truths.truths.Goals as goal

pub loop-word-init : goal.loop-word-init
loop-word-init c = words-start truth_word (search rules)

pub returns-in_err-word : goal.returns-in_err-word
returns-in_err-word c = words-broken Truths truths-are c.loop-word.invariant (handed-on c.from_residual.ensures.1) c.in_err-word.ensures.found

pub returns-in-Last : goal.returns-in-Last
returns-in-Last c =
    word-last Truths truths-are c.loop-word.invariant c.add_truth.ensures (piece-as c.in-Last.is c.in_ok-word.ensures) c.judged.ensures

pub loop-word-preserved-in-Ok : goal.loop-word-preserved-in-Ok
loop-word-preserved-in-Ok c =
    word_cut Truths truths-are c.loop-word.invariant c.add_truth-in-Cut.ensures (piece-as c.in-Cut.is c.in_ok-word.ensures)
    (rw c.in-Ok.is (sym (none-bad _))) (rw c.in-Ok.is)

pub loop-word-preserved : goal.loop-word-preserved
loop-word-preserved c =
    word_cut Truths truths-are c.loop-word.invariant c.add_truth-in-Cut.ensures (piece-as c.in-Cut.is c.in_ok-word.ensures)
    (rw c.in-Err.is c.or-bad.ensures) (rw c.in-Err.is)
