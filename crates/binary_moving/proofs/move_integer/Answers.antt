-- binary_moving::move_integer: found by its value: null where that stands for it.
use mathlib.Core.List.{[], ◌∷◌}
use mathlib.Core.Path.{◌∙◌, ◌≡◌, ap, subst, sym}
use Prim.Native.Nat.{ℕ}
use lib.IntN.{ℤ}
use mir.Syntax.{w64}
use mir.Val.{of_z, to_z}
use Rattle.cell_putting.proofs.Elements.{null-moved}
use Rattle.moving.proofs.Puts.{puts_none}
use Rattle.moving.specs.Contents.{InBinary}
use Rattle.number.specs.Clauses.{is_signed, width_of}
use Rattle.table.specs.Cell.{is_declared}
use Rattle.table.specs.Shape.{Shape, Whole, shape}
use borrow.Author.Rules.{rules}
use native.Mathlib.Omega.{arith}
use Rattle.binary_moving.proofs.move_integer.Goals as goal

pub returns-then-is_declared : goal.returns-then-is_declared
returns-then-is_declared c =
    let value : ℤ = c.binary_integer-z.result.value in
    let next : ℕ = c.binary_integer-z.result.next in
    let stands : InBinary (Whole (is_signed c.args.integer) (width_of c.args.integer)) 1 c.args.s.now c.args.at next (value ∷ []) =
    c.binary_integer-z.ensures in
    let fits : to_z w64 (of_z w64 value) ≡ value = search rules in
    let p = c.put_null in
    λ from one q. null-moved (InBinary (shape c.args.column.kind) 1 c.args.s.now c.args.at) from c.args.to c.args.column
    (Whole (is_signed c.args.integer) (width_of c.args.integer)) value c.args.row.now c.args.o
    p.new.row next one q (subst (λ (y : Shape). InBinary y 1 c.args.s.now c.args.at next (value ∷ [])) (sym q) stands) p.result
    (sym (ap (is_declared c.args.column.null) fits) ∙ sym c.is_declared.ensures ∙ c.if-is_declared.true) p.ensures

pub returns : goal.returns
returns c = λ from one q. puts_none c.args.row.now c.args.o (omega (arith, c.requires.2))
