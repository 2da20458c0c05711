-- `words::Word::with_hexadecimal` meets its contract: a hexadigit, of which there may be 16, or none.
use mathlib.Core.Path.{◌∙◌, sym}
use Rattle.text.proofs.Digits.{hexadigit-is, hexadigit-no}
use Rattle.words.proofs.WordLaws.{hexadecimal-bad, hexadecimal-full, hexadecimal-more}
use Rattle.words.proofs.Word.with_hexadecimal.Goals as goal
use Rattle.words.proofs.Word.with_hexadecimal.Goals.{then-digit-ge16-via-then-digit-ge16, then-digit-ge16-via-else-digit-ge16+then-self-ge16}

pub returns-then-digit-ge16 : goal.returns-then-digit-ge16
returns-then-digit-ge16 c =
    let w = c.args.self in
    let d = c.digit_value-digit in
    c.of.ensures
    ∙ elim c.then-digit-ge16.branch [
      | then-digit-ge16-via-then-digit-ge16 v ↦ sym (hexadecimal-bad w.count w.value c.args.c (hexadigit-no d.ensures v.if-digit-ge16.true))
      | then-digit-ge16-via-else-digit-ge16+then-self-ge16 v ↦
          sym (hexadecimal-full w.count w.value c.args.c d.result (hexadigit-is d.ensures v.if-digit-ge16.false) v.if-self-ge16.true)
    ]

pub returns : goal.returns
returns c =
    let w = c.args.self in
    let d = c.digit_value-digit in
    sym (hexadecimal-more w.count w.value c.args.c d.result (hexadigit-is d.ensures c.if-digit-ge16.false) c.if-self-ge16.false)
