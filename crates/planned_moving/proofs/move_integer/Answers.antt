-- planned_moving::move_integer: found by its value, which is put where it does not stand for null.
use Prim.Native.Nat.{ℕ}
use mathlib.Core.List.{[], ◌∷◌}
use mathlib.Core.Path.{◌∙◌, ◌≡◌, ap, ap₂, subst, sym}
use native.Mathlib.Omega.{arith}
use borrow.Author.Rules.{rules}
use lib.IntN.{ℤ}
use mir.Syntax.{w64}
use mir.Val.{of_z, to_z}
use Rattle.cell_putting.proofs.Elements.{value-moved}
use Rattle.cell_putting.specs.Clauses.{one_form}
use Rattle.moving.proofs.Puts.{puts-as, puts_none}
use Rattle.moving.specs.Contents.{InBinary}
use Rattle.number.specs.Clauses.{is_signed, width_of}
use Rattle.table.specs.Cell.{is_declared}
use Rattle.table.specs.Shape.{Shape, Whole, shape}
use Rattle.planned_moving.proofs.move_integer.Goals as goal

pub returns-then-is_declared : goal.returns-then-is_declared
returns-then-is_declared c = λ from column one q n. puts_none c.args.row.now c.args.o (omega (arith, c.requires.1))

pub returns : goal.returns
returns c =
    let kind-of : Shape = Whole (is_signed c.args.integer) (width_of c.args.integer) in
    let value : ℤ = c.binary_integer-z.result.value in
    let next : ℕ = c.binary_integer-z.result.next in
    let stands : InBinary kind-of 1 c.args.s.now c.args.at next (value ∷ []) = c.binary_integer-z.ensures in
    let fits : to_z w64 (of_z w64 value) ≡ value = search rules in
    let a = c.args in
    let p = c.put_integer-e in
    let d = c.is_declared.ensures in
    λ from column one q n.
    value-moved (InBinary (shape column.kind) 1 a.s.now a.at) from a.to column kind-of value a.row.now a.o p.new.row next one q
    (subst (λ (y : Shape). InBinary y 1 a.s.now a.at next (value ∷ [])) (sym q) stands) p.result tt
    (ap₂ is_declared n (sym fits) ∙ sym d ∙ c.if-is_declared.false)
    (puts-as (ap (one_form a.to kind-of) fits) p.ensures)
