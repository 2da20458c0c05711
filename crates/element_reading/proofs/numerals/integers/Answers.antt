-- `element_reading::numerals::integers` meets its contract. The invariant: the words passed over are the elements so far, or
-- the first bad one has the reason that is held; a word read at once adds its one element.
use mathlib.Core.Path.{refl, sym}
use borrow.Author.Rules.{rules}
use Rattle.table.proofs.Failures.{handed-on}
use Rattle.element_reading.proofs.Words.{none-bad, piece-as, quick-as, word_cut, word-last, words-broken, words-start}
use Rattle.element_reading.proofs.numerals.Laws.{integers-are, quick-adds, whole}
use Rattle.element_reading.proofs.numerals.integers.Goals as goal

pub loop-z-init : goal.loop-z-init
loop-z-init c = words-start _ (search rules)

pub loop-z-preserved-in-Some-Cut : goal.loop-z-preserved-in-Some-Cut
loop-z-preserved-in-Some-Cut c =
    let kind = c.args.kind in
    word_cut (whole kind) (integers-are kind) c.loop-z.invariant (quick-adds kind c.put.ensures (search rules))
    (quick-as c.in-Some-Cut.field-0-is c.in-Some-Cut.ensures) (sym (none-bad _)) refl

pub returns-in-Some-Last : goal.returns-in-Some-Last
returns-in-Some-Last c =
    let kind = c.args.kind in
    word-last (whole kind) (integers-are kind) c.loop-z.invariant (quick-adds kind c.put-in-Some-Last.ensures (search rules))
    (quick-as c.in-Some-Last.field-0-is c.in-Some-Last.ensures) c.judged.ensures

pub returns-in_err-word-in-None : goal.returns-in_err-word-in-None
returns-in_err-word-in-None c =
    words-broken _ (integers-are c.args.kind) c.loop-z.invariant (handed-on c.from_residual.ensures.1) c.in_err-word-in-None.ensures.found

pub returns-in-Last : goal.returns-in-Last
returns-in-Last c =
    word-last _ (integers-are c.args.kind) c.loop-z.invariant c.add_integer.ensures (piece-as c.in-Last.is c.in_ok-word-in-None.ensures) c.judged-in-Last.ensures

pub loop-z-preserved-in-Ok : goal.loop-z-preserved-in-Ok
loop-z-preserved-in-Ok c =
    word_cut _ (integers-are c.args.kind) c.loop-z.invariant c.add_integer-in-Cut.ensures (piece-as c.in-Cut.is c.in_ok-word-in-None.ensures)
    (rw c.in-Ok.is (sym (none-bad _))) (rw c.in-Ok.is)

pub loop-z-preserved : goal.loop-z-preserved
loop-z-preserved c =
    word_cut _ (integers-are c.args.kind) c.loop-z.invariant c.add_integer-in-Cut.ensures (piece-as c.in-Cut.is c.in_ok-word-in-None.ensures)
    (rw c.in-Err.is c.or-bad.ensures) (rw c.in-Err.is)
