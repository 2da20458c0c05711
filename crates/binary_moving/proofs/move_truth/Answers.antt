-- binary_moving::move_truth: found by its value: null where that stands for it, else the value.
use mathlib.Core.List.{[], ◌∷◌}
use mathlib.Core.Path.{◌∙◌, ◌≡◌, ap, subst, sym}
use Prim.Native.Nat.{ℕ}
use lib.IntN.{ℤ}
use mir.Syntax.{w64}
use mir.Val.{of_z, to_z}
use Rattle.cell_putting.proofs.Elements.{null-moved, value-moved}
use Rattle.cell_putting.specs.Clauses.{one_form}
use Rattle.moving.proofs.Puts.{puts-as, puts_none}
use Rattle.moving.specs.Contents.{InBinary}
use lib.IntN.{pos}
use Rattle.table.specs.Cell.{same_integer}
use Rattle.table.specs.Shape.{Shape, Truths, shape}
use borrow.Author.Rules.{rules}
use native.Mathlib.Omega.{arith}
use Rattle.binary_moving.proofs.move_truth.Goals as goal

pub returns-in_err-z : goal.returns-in_err-z
returns-in_err-z c = rw c.from_residual.ensures (λ from one q. puts_none c.args.row.now c.args.o (omega (arith, c.requires.2)))

pub returns-then-same_integer : goal.returns-then-same_integer
returns-then-same_integer c =
    let value : ℤ = c.in_ok-z.field-0.value in
    let next : ℕ = c.in_ok-z.field-0.next in
    let stands : InBinary Truths 1 c.args.s.now c.args.at next (value ∷ []) = c.in_ok-z.ensures in
    let fits : to_z w64 (of_z w64 value) ≡ value = search rules in
    let p = c.put_null in
    λ from one q. null-moved (InBinary (shape c.args.column.kind) 1 c.args.s.now c.args.at) from c.args.to c.args.column Truths value c.args.row.now c.args.o
    p.new.row next one q (subst (λ (y : Shape). InBinary y 1 c.args.s.now c.args.at next (value ∷ [])) (sym q) stands) p.result
    (sym (ap (λ (z : ℤ). same_integer z (pos 2)) fits) ∙ sym c.same_integer.ensures ∙ c.if-same_integer.true) p.ensures

pub returns : goal.returns
returns c =
    let value : ℤ = c.in_ok-z.field-0.value in
    let next : ℕ = c.in_ok-z.field-0.next in
    let stands : InBinary Truths 1 c.args.s.now c.args.at next (value ∷ []) = c.in_ok-z.ensures in
    let fits : to_z w64 (of_z w64 value) ≡ value = search rules in
    let p = c.put_truth-e in
    λ from one q. value-moved (InBinary (shape c.args.column.kind) 1 c.args.s.now c.args.at) from c.args.to c.args.column Truths value c.args.row.now c.args.o
    p.new.row next one q (subst (λ (y : Shape). InBinary y 1 c.args.s.now c.args.at next (value ∷ [])) (sym q) stands) p.result tt
    (sym (ap (λ (z : ℤ). same_integer z (pos 2)) fits) ∙ sym c.same_integer.ensures ∙ c.if-same_integer.false)
    (puts-as (ap (one_form c.args.to Truths) fits) p.ensures)
