-- `text_moving::move_truth` meets its contract: the truth is read, its end tag stands behind it; null is put where its value stands for it, else the value.
use Prim.Native.Nat.{◌+◌, ℕ}
use mathlib.Core.Bool.{true}
use mathlib.Core.List.{[], ◌∷◌}
use mathlib.Core.Path.{◌∙◌, ◌≡◌, ap, sym}
use lib.IntN.{pos, ℤ}
use mir.Syntax.{w64}
use mir.Val.{of_z, to_z}
use Rattle.cell_putting.proofs.Elements.{null-moved, value-moved}
use Rattle.cell_putting.specs.Clauses.{one_form}
use Rattle.moving.proofs.Puts.{puts-as, puts_none}
use Rattle.moving.specs.Contents.{InText}
use Rattle.table.specs.Cell.{is_scalar, same_integer}
use Rattle.table.specs.Shape.{Truths, shape}
use Rattle.table.specs.declared.Rows.TheVariants.{TableData}
use Rattle.text_moving.proofs.Cells.{one-read}
use Rattle.text_moving.specs.Clauses.{ClosesAt, TextRead}
use native.Mathlib.Omega.{arith}
use borrow.Author.Rules.{rules}
use Rattle.text_moving.proofs.move_truth.Goals as goal

pub returns-in_err-z : goal.returns-in_err-z
returns-in_err-z c = rw c.from_residual.ensures (λ one q. puts_none _ _ (omega (arith, c.requires.2)))

pub closes-requires : goal.closes-requires
closes-requires c =
    let value : ℤ = c.in_ok-z.field-0.value in
    let end : ℕ = c.in_ok-z.field-0.next in
    let stands : let a = c.args in InText Truths a.s.now a.from end (value ∷ []) = c.in_ok-z.ensures in
    stands.spells.inside

pub returns-then-not-closes : goal.returns-then-not-closes
returns-then-not-closes c = λ one q. puts_none _ _ (omega (arith, c.requires.2))

pub overflow_add-end : goal.overflow_add-end
overflow_add-end c =
    let end : ℕ = c.in_ok-z.field-0.next in
    let ended : ClosesAt c.args.s.now end = c.closes.ensures (c.if-not-closes.false) in
    let h = ended.inside in search rules

pub returns-then-same_integer : goal.returns-then-same_integer
returns-then-same_integer c =
    let value : ℤ = c.in_ok-z.field-0.value in
    let end : ℕ = c.in_ok-z.field-0.next in
    let stands : let a = c.args in InText Truths a.s.now a.from end (value ∷ []) = c.in_ok-z.ensures in
    let fits : to_z w64 (of_z w64 value) ≡ value = search rules in
    let ended : ClosesAt c.args.s.now end = c.closes.ensures (c.if-not-closes.false) in
    let read : let a = c.args in is_scalar a.column ≡ true → shape a.column.kind ≡ Truths → TextRead a.column a.s.now a.from (end + 5) (value ∷ []) = λ one q. let a = c.args in
    one-read a.column Truths a.s.now a.from end value one q stands ended in
    let tested : same_integer value (pos 2) ≡ c.same_integer.result = sym (ap (λ (z : ℤ). same_integer z (pos 2)) fits) ∙ sym c.same_integer.ensures in
    let a = c.args in
    let p = c.put_null in
    λ one q. null-moved (TextRead a.column a.s.now a.from) TableData a.to a.column Truths value a.row.now a.o p.new.row (end + 5) one q
    (read one q) p.result
    (tested ∙ c.if-same_integer.true) p.ensures

pub returns : goal.returns
returns c =
    let value : ℤ = c.in_ok-z.field-0.value in
    let end : ℕ = c.in_ok-z.field-0.next in
    let stands : let a = c.args in InText Truths a.s.now a.from end (value ∷ []) = c.in_ok-z.ensures in
    let fits : to_z w64 (of_z w64 value) ≡ value = search rules in
    let ended : ClosesAt c.args.s.now end = c.closes.ensures (c.if-not-closes.false) in
    let read : let a = c.args in is_scalar a.column ≡ true → shape a.column.kind ≡ Truths → TextRead a.column a.s.now a.from (end + 5) (value ∷ []) = λ one q. let a = c.args in
    one-read a.column Truths a.s.now a.from end value one q stands ended in
    let tested : same_integer value (pos 2) ≡ c.same_integer.result = sym (ap (λ (z : ℤ). same_integer z (pos 2)) fits) ∙ sym c.same_integer.ensures in
    let a = c.args in
    let p = c.put_truth-e in
    λ one q. value-moved (TextRead a.column a.s.now a.from) TableData a.to a.column Truths value a.row.now a.o p.new.row (end + 5) one q
    (read one q) p.result tt
    (tested ∙ c.if-same_integer.false) (puts-as (ap (one_form a.to Truths) fits) p.ensures)

pub overflow_add-result : goal.overflow_add-result
overflow_add-result c =
    let end : ℕ = c.in_ok-z.field-0.next in
    let ended : ClosesAt c.args.s.now end = c.closes.ensures (c.if-not-closes.false) in
    let h = ended.inside in search rules
