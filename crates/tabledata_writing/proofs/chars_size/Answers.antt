-- `tabledata_writing::chars_size` meets its contract. The invariant: the whole has the size so far and that of what is left.
use native.Mathlib.Omega.{arith}
use Prim.Native.Nat.{◌≤◌}
use Rattle.table.specs.Result.{bad, good}
use mathlib.Core.Path.{◌∙◌, ◌≡◌, ap, sym}
use lib.IntN.{pos, ℤ}
use lib.ListN.{get_or}
use borrow.Author.Rules.{rules}
use mir.Syntax.{w64}
use mir.Val.{of_z, to_z}
use Rattle.table.specs.Clauses.{size_of}
use Rattle.tabledata_writing.proofs.Writing.{has-form, no-form, passed-on, size-bad, size-end, size-more}
use Rattle.tabledata.specs.TableData.{form_of}
use Rattle.tabledata_writing.proofs.chars_size.Goals as goal

pub returns-in_err-size : goal.returns-in_err-size
returns-in_err-size c =
    let es = c.args.chars.now in let k = c.loop-z.z-index in let z = get_or es k (pos 0) in
    let held : to_z w64 (of_z w64 z) ≡ z = search rules in
    let none = no-form c.form_size.result c.in_err-size.field-0.0 (sym c.ok_or.ensures.value ∙ c.in_err-size.was) in
    let form : size_of (form_of z) ≡ bad 16 = ap (λ (y : ℤ). size_of (form_of y)) (sym held) ∙ ap size_of c.code_of.ensures.0 ∙ c.form_size.ensures.0 ∙ none.0 in
    passed-on c.from_residual.result c.in_err-size.field-0.0 c.from_residual.ensures.1 ∙ ap bad none.1 ∙ sym (c.loop-z.invariant.1 ∙ size-bad c.loop-z.size es k c.loop-z-test.true form)

pub loop-z-preserved : goal.loop-z-preserved
loop-z-preserved c =
    let es = c.args.chars.now in let k = c.loop-z.z-index in let z = get_or es k (pos 0) in
    let held : to_z w64 (of_z w64 z) ≡ z = search rules in
    let some = has-form c.form_size.result c.in_ok-size.field-0 (sym c.ok_or.ensures.value ∙ c.in_ok-size.was) in
    let form : size_of (form_of z) ≡ good c.in_ok-size.field-0 = ap (λ (y : ℤ). size_of (form_of y)) (sym held) ∙ ap size_of c.code_of.ensures.0 ∙ c.form_size.ensures.0 ∙ some.0 in
    let few : c.in_ok-size.field-0 ≤ 5 = some.1 c.form_size.ensures.1 in
    (omega (arith, few, c.loop-z.invariant.0), c.loop-z.invariant.1 ∙ size-more c.loop-z.size es k c.in_ok-size.field-0 c.loop-z-test.true form)

pub returns : goal.returns
returns c = sym (c.loop-z.invariant.1 ∙ size-end c.loop-z.size c.args.chars.now c.loop-z.z-index c.loop-z-test.false)
