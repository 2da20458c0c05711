-- `element_reading::numerals::add_integer` meets its contract: a word that was not begun adds nothing, another what it reads as.
use native.Mathlib.Omega.{arith}
use mathlib.Core.List.{[], append-nil}
use mathlib.Core.Path.{◌∙◌, ap, refl, sym}
use lib.ListN.{length, length-set}
use borrow.Author.Rules.{rules}
use Rattle.number.specs.Clauses.{is_signed, size}
use Rattle.number.specs.Number.{Outside, Unwritten}
use Rattle.std.specs.Prelude.{Err}
use Rattle.words.specs.declared.IntegerError.{IntegerError}
use Rattle.table.specs.Result.{bad, good}
use Rattle.tabledata.specs.TableData.{fault_number, integer_word}
use Rattle.element_reading.proofs.Words.{added_none}
use Rattle.element_reading.proofs.elements.Laws.{put-more}
use Rattle.element_reading.proofs.numerals.Laws.{fed-none, read-word}
use Rattle.element_reading.specs.Words.{begun_form, is-added, is-refused}
use Rattle.words.specs.Clauses.{reading_of}
use Rattle.words.specs.declared.Word.{Word}
use Rattle.element_reading.proofs.numerals.add_integer.Goals as goal

pub returns-then-not-is_begun : goal.returns-then-not-is_begun
returns-then-not-is_begun c =
    let k = c.args.kind in
    let f = integer_word (is_signed k) (size k) in
    record {
      found = λ w e.
          rw (fed-none w (ap (λ (x : Word). begun_form x.form) (sym e) ∙ sym c.is_begun.ensures ∙ c.if-not-is_begun.true), added_none f)
          (is-added {fs = []} refl (λ es p. rw append-nil p));
      most = omega arith;
      long = refl;
    }

pub returns-in-Err-Outside : goal.returns-in-Err-Outside
unfolding fault_number
returns-in-Err-Outside c = record {
  found = λ w e.
      rw (read-word c.args.kind w (bad Outside) e (sym c.is_begun.ensures ∙ c.if-not-is_begun.false)
      (sym c.in-Err-Outside.ensures ∙ ap (λ (f : IntegerError). reading_of (Err f)) c.in-Err-Outside.field-0-is))
      (is-refused refl);
  most = omega arith;
  long = refl;
}

pub returns-in-Err-Unwritten : goal.returns-in-Err-Unwritten
unfolding fault_number
returns-in-Err-Unwritten c = record {
  found = λ w e.
      rw (read-word c.args.kind w (bad Unwritten) e (sym c.is_begun.ensures ∙ c.if-not-is_begun.false)
      (sym c.in-Err-Unwritten.ensures ∙ ap (λ (f : IntegerError). reading_of (Err f)) c.in-Err-Unwritten.field-0-is))
      (is-refused refl);
  most = omega arith;
  long = refl;
}

pub returns-in-Ok : goal.returns-in-Ok
returns-in-Ok c = record {
  found = λ w e.
      rw (read-word c.args.kind w (good c.in-Ok.z) e (sym c.is_begun.ensures ∙ c.if-not-is_begun.false) (sym c.in-Ok.ensures))
      (is-added refl (λ es p. put-more {x = c.in-Ok.z} p c.put.ensures (search rules)));
  most = omega arith;
  long = ap length c.put.ensures ∙ simp length-set;
}
