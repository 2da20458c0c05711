-- `words::Word::with_decimal` meets its contract: a digit, of which there may be 20, or no digit.
use Prim.Native.Nat.{◌+◌, ◌-◌}
use mathlib.Core.Path.{◌∙◌, ap, sym}
use Rattle.words.specs.Words.{word}
use Rattle.number.proofs.Laws.{digit-no, digit-yes}
use Rattle.words.proofs.WordLaws.{decimal-bad, decimal-full, decimal-more}
use native.Mathlib.Omega.{arith}
use Rattle.words.proofs.Word.with_decimal.Goals as goal
use Rattle.words.proofs.Word.with_decimal.Goals.{in_default-via-then-c-lt48, in_default-via-in-48-to-57+else-self-lt20, in_default-via-else-c-lt48+else-c-lt58}

pub returns-in-48-to-57 : goal.returns-in-48-to-57
returns-in-48-to-57 c =
    let w = c.args.self in
    ap (word w.form (w.count + 1)) c.with_digit.ensures
    ∙ sym (decimal-more w.form w.count w.value c.args.c (c.args.c - 48) (digit-yes c.args.c (omega arith) (omega arith)) (omega arith))

pub returns-in_default : goal.returns-in_default
returns-in_default c =
    let w = c.args.self in
    c.of.ensures
    ∙ elim c.in_default.branch [
      | in_default-via-then-c-lt48 v ↦ sym (decimal-bad w.form w.count w.value c.args.c (digit-no c.args.c (λ h k. omega arith)))
      | in_default-via-in-48-to-57+else-self-lt20 v ↦
          sym (decimal-full w.form w.count w.value c.args.c (c.args.c - 48) (digit-yes c.args.c (omega arith) (omega arith)) v.if-self-lt20.false)
      | in_default-via-else-c-lt48+else-c-lt58 v ↦ sym (decimal-bad w.form w.count w.value c.args.c (digit-no c.args.c (λ h k. omega arith)))
    ]
