-- `words::Word::read_hexadecimal` meets its contract: no digit, more than the kind takes, or a value.
use mathlib.Core.Path.{◌∙◌, ap, sym}
use lib.IntN.{ℤ}
use mir.Facts.{to_z-of_z}
use mir.Syntax.{w64}
use Rattle.number.specs.Number.{Fault}
use Rattle.table.specs.Result.{Result, good}
use Rattle.words.proofs.WordLaws.{hexadecimal-many, hexadecimal-none, hexadecimal-value}
use native.Mathlib.Omega.{arith}
use Rattle.words.proofs.Word.read_hexadecimal.Goals as goal
use Rattle.words.proofs.Word.read_hexadecimal.Goals.{then-self-eq0-via-then-self-eq0, then-self-eq0-via-else-self-eq0+then-integer_bytes-self}

pub returns-then-self-eq0 : goal.returns-then-self-eq0
returns-then-self-eq0 c =
    let w = c.args.self in
    let k = c.args.kind in
    elim c.then-self-eq0.branch [
      | then-self-eq0-via-then-self-eq0 v ↦ sym (hexadecimal-none k w.count w.value v.if-self-eq0.true)
      | then-self-eq0-via-else-self-eq0+then-integer_bytes-self v ↦
          sym (hexadecimal-many k w.count w.value v.if-self-eq0.false (omega (arith, v.integer_bytes.ensures.0, v.if-integer_bytes-self.true)))
    ]

pub returns : goal.returns
returns c =
    let w = c.args.self in
    ap {B = Result Fault ℤ} good (to_z-of_z {w = w64} (record { sfits = c.of_low_bytes.type_inv }) ∙ c.of_low_bytes.ensures)
    ∙ sym (hexadecimal-value c.args.kind w.count w.value c.if-self-eq0.false (omega (arith, c.integer_bytes.ensures.0)))
