-- `text_moving::move_integer` meets its contract: the integer is read, its end tag stands behind it; null is put where its value stands for it, else the value.
use Prim.Native.Nat.{◌+◌, ℕ}
use mathlib.Core.Bool.{true}
use mathlib.Core.List.{[], ◌∷◌}
use mathlib.Core.Path.{◌∙◌, ◌≡◌, ap, sym}
use lib.IntN.{ℤ}
use mir.Syntax.{w64}
use mir.Val.{of_z, to_z}
use Rattle.cell_putting.proofs.Elements.{null-moved, value-moved}
use Rattle.cell_putting.specs.Clauses.{one_form}
use Rattle.moving.proofs.Puts.{puts-as, puts_none}
use Rattle.moving.specs.Contents.{InText}
use Rattle.number.specs.Clauses.{is_signed, width_of}
use Rattle.table.specs.Cell.{is_declared, is_scalar}
use Rattle.table.specs.Shape.{Shape, Whole, shape}
use Rattle.table.specs.declared.Rows.TheVariants.{TableData}
use Rattle.text_moving.proofs.Cells.{one-read}
use Rattle.text_moving.specs.Clauses.{ClosesAt, TextRead}
use native.Mathlib.Omega.{arith}
use borrow.Author.Rules.{rules}
use Rattle.text_moving.proofs.move_integer.Goals as goal

pub returns-in_err-z : goal.returns-in_err-z
returns-in_err-z c = rw c.from_residual.ensures (λ one q. puts_none _ _ (omega (arith, c.requires.2)))

pub closes-requires : goal.closes-requires
closes-requires c =
    let value : ℤ = c.in_ok-z.field-0.value in
    let end : ℕ = c.in_ok-z.field-0.next in
    let kind : Shape = Whole (is_signed c.args.integer) (width_of c.args.integer) in
    let stands : let a = c.args in InText kind a.s.now a.from end (value ∷ []) = c.in_ok-z.ensures in
    stands.spells.inside

pub returns-then-not-closes : goal.returns-then-not-closes
returns-then-not-closes c = λ one q. puts_none _ _ (omega (arith, c.requires.2))

pub overflow_add-end : goal.overflow_add-end
overflow_add-end c =
    let end : ℕ = c.in_ok-z.field-0.next in
    let ended : ClosesAt c.args.s.now end = c.closes.ensures (c.if-not-closes.false) in
    let h = ended.inside in search rules

pub returns-then-is_declared : goal.returns-then-is_declared
returns-then-is_declared c =
    let value : ℤ = c.in_ok-z.field-0.value in
    let end : ℕ = c.in_ok-z.field-0.next in
    let kind : Shape = Whole (is_signed c.args.integer) (width_of c.args.integer) in
    let stands : let a = c.args in InText kind a.s.now a.from end (value ∷ []) = c.in_ok-z.ensures in
    let fits : to_z w64 (of_z w64 value) ≡ value = search rules in
    let ended : ClosesAt c.args.s.now end = c.closes.ensures (c.if-not-closes.false) in
    let read : let a = c.args in is_scalar a.column ≡ true → shape a.column.kind ≡ kind → TextRead a.column a.s.now a.from (end + 5) (value ∷ []) = λ one q. let a = c.args in
    one-read a.column kind a.s.now a.from end value one q stands ended in
    let tested : is_declared c.args.column.null value ≡ c.is_declared.result = sym (ap (is_declared c.args.column.null) fits) ∙ sym c.is_declared.ensures in
    let a = c.args in
    let p = c.put_null in
    λ one q. null-moved (TextRead a.column a.s.now a.from) TableData a.to a.column kind value a.row.now a.o p.new.row (end + 5) one q
    (read one q) p.result
    (tested ∙ c.if-is_declared.true) p.ensures

pub returns : goal.returns
returns c =
    let value : ℤ = c.in_ok-z.field-0.value in
    let end : ℕ = c.in_ok-z.field-0.next in
    let kind : Shape = Whole (is_signed c.args.integer) (width_of c.args.integer) in
    let stands : let a = c.args in InText kind a.s.now a.from end (value ∷ []) = c.in_ok-z.ensures in
    let fits : to_z w64 (of_z w64 value) ≡ value = search rules in
    let ended : ClosesAt c.args.s.now end = c.closes.ensures (c.if-not-closes.false) in
    let read : let a = c.args in is_scalar a.column ≡ true → shape a.column.kind ≡ kind → TextRead a.column a.s.now a.from (end + 5) (value ∷ []) = λ one q. let a = c.args in
    one-read a.column kind a.s.now a.from end value one q stands ended in
    let tested : is_declared c.args.column.null value ≡ c.is_declared.result = sym (ap (is_declared c.args.column.null) fits) ∙ sym c.is_declared.ensures in
    let a = c.args in
    let p = c.put_integer-e in
    λ one q. value-moved (TextRead a.column a.s.now a.from) TableData a.to a.column kind value a.row.now a.o p.new.row (end + 5) one q
    (read one q) p.result tt
    (tested ∙ c.if-is_declared.false) (puts-as (ap (one_form a.to kind) fits) p.ensures)

pub overflow_add-result : goal.overflow_add-result
overflow_add-result c =
    let end : ℕ = c.in_ok-z.field-0.next in
    let ended : ClosesAt c.args.s.now end = c.closes.ensures (c.if-not-closes.false) in
    let h = ended.inside in search rules
