-- `words::Word::read_positive` meets its contract: no digit, over the kind's largest, or a value.
use mathlib.Core.Path.{◌∙◌, ap, sym}
use lib.IntN.{ℤ}
use mir.Facts.{to_z_pos}
use mir.Syntax.{w64}
use Rattle.number.specs.Number.{Fault}
use Rattle.table.specs.Result.{Result, good}
use Rattle.words.proofs.WordLaws.{decimal-none, decimal-over, decimal-up, top_lt}
use native.Mathlib.Omega.{arith}
use Rattle.words.proofs.Word.read_positive.Goals as goal

pub returns-then-self-eq0 : goal.returns-then-self-eq0
returns-then-self-eq0 c = sym (decimal-none c.args.kind _ c.args.self.count c.args.self.value c.if-self-eq0.true)

pub returns-then-top_of-self : goal.returns-then-top_of-self
returns-then-top_of-self c = sym (decimal-over c.args.kind c.args.self.count c.args.self.value c.if-self-eq0.false (omega (arith, c.top_of.ensures)))

pub returns : goal.returns
returns c =
    let w = c.args.self in
    ap {B = Result Fault ℤ} good (to_z_pos w64 (omega (arith, c.top_of.ensures, top_lt c.args.kind)))
    ∙ sym (decimal-up c.args.kind w.count w.value c.if-self-eq0.false (omega (arith, c.top_of.ensures)))

pub overflow_cast-result : goal.overflow_cast-result
overflow_cast-result c = omega (arith, c.top_of.ensures, top_lt c.args.kind)
