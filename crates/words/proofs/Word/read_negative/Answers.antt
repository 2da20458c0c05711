-- `words::Word::read_negative` meets its contract: a kind without a sign, no digit, none but zeros, under the kind's least, or a value that counts
-- down from -1.
use mathlib.Core.Bool.{true}
use mathlib.Core.Path.{◌∙◌, ◌≡◌, ap, sym}
use Prim.Native.Nat.{◌-◌, ◌≤◌}
use lib.IntN.{ℤ}
use mir.Syntax.{w64}
use Rattle.words.specs.Clauses.{top}
use Rattle.number.specs.Number.{Fault}
use Rattle.table.specs.Result.{Result, good}
use Rattle.number.proofs.Signed.{high_is, less-fits}
use Rattle.words.proofs.WordLaws.{decimal-down, decimal-none, decimal-under, decimal-zero, signed_no, signed_yes, top_lt}
use Rattle.number.specs.Clauses.{is_signed}
use native.Mathlib.Omega.{arith}
use Rattle.words.proofs.Word.read_negative.Goals as goal
use Rattle.words.proofs.Word.read_negative.Goals.{then-not-is_signed-via-then-not-is_signed, then-not-is_signed-via-else-not-is_signed+then-self-eq0}

pub returns-then-not-is_signed : goal.returns-then-not-is_signed
returns-then-not-is_signed c =
    let w = c.args.self in
    let k = c.args.kind in
    elim c.then-not-is_signed.branch [
      | then-not-is_signed-via-then-not-is_signed v ↦ sym (signed_no k true w.count w.value (sym c.is_signed.ensures ∙ v.if-not-is_signed.true))
      | then-not-is_signed-via-else-not-is_signed+then-self-eq0 v ↦
          sym (signed_yes k true w.count w.value (sym c.is_signed.ensures ∙ v.if-not-is_signed.false) ∙ decimal-none k true w.count w.value v.if-self-eq0.true)
    ]

pub returns-then-self-eq0-2 : goal.returns-then-self-eq0-2
returns-then-self-eq0-2 c =
    let w = c.args.self in
    let k = c.args.kind in
    let g : is_signed k ≡ true = sym c.is_signed.ensures ∙ c.if-not-is_signed.false in
    sym (signed_yes k true w.count w.value g ∙ decimal-zero k w.count w.value c.if-self-eq0.false c.if-self-eq0-2.true)

pub returns-then-top_of-self : goal.returns-then-top_of-self
returns-then-top_of-self c =
    let w = c.args.self in
    let k = c.args.kind in
    let g : is_signed k ≡ true = sym c.is_signed.ensures ∙ c.if-not-is_signed.false in
    sym (signed_yes k true w.count w.value g ∙ decimal-under k w.count w.value c.if-self-eq0.false c.if-self-eq0-2.false (omega (arith, c.top_of.ensures)))

pub overflow_cast-result : goal.overflow_cast-result
overflow_cast-result c = omega (arith, c.top_of.ensures, top_lt c.args.kind)

pub overflow_sub-result-2 : goal.overflow_sub-result-2
overflow_sub-result-2 c = search (less-fits w64 (c.args.self.value - 1) (omega (arith, c.top_of.ensures, top_lt c.args.kind)))

pub returns : goal.returns
returns c =
    let w = c.args.self in
    let k = c.args.kind in
    let g : is_signed k ≡ true = sym c.is_signed.ensures ∙ c.if-not-is_signed.false in
    let h : w.value - 1 ≤ top k = omega (arith, c.top_of.ensures) in
    ap {B = Result Fault ℤ} good (high_is w64 (w.value - 1) (omega (arith, top_lt k)))
    ∙ sym (signed_yes k true w.count w.value g ∙ decimal-down k w.count w.value c.if-self-eq0.false c.if-self-eq0-2.false g h)
