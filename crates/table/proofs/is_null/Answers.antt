-- table::is_null: only a scalar of one element can be null, and its kind says whether that element stands for it.
use Rattle.table.proofs.Laws.{array-not-null}
use Rattle.table.proofs.Nulls.{null-many, null-one, scalar-stands}
use Rattle.table.specs.Cell.{is_null_of_kind}
use Rattle.table.specs.Shape.{shape}
use borrow.Author.Rules.{sfits_of}
use mathlib.Core.Path.{◌∙◌, ap, sym}
use mir.Facts.{to_z-of_z}
use mir.Syntax.{w64}
use native.Mathlib.Omega.{arith}
use Rattle.table.proofs.is_null.Goals as goal

pub returns-then-not-is_scalar : goal.returns-then-not-is_scalar
returns-then-not-is_scalar c = sym (array-not-null _ _ (sym c.is_scalar.ensures ∙ c.if-not-is_scalar.true))

pub returns-then-count-eq1 : goal.returns-then-count-eq1
returns-then-count-eq1 c =
    let a = c.args in
    let col = a.column in
    c.is_null_of_kind.ensures ∙ ap (is_null_of_kind (shape col.kind) col.null) (to_z-of_z {w = w64} (sfits_of c.is_null_of_kind-arg-1.given))
    ∙ sym (null-one _ a.count a.scratch.now _ (omega arith) (omega arith)
    ∙ scalar-stands col _ (sym c.is_scalar.ensures ∙ c.if-not-is_scalar.false))

pub returns-else-count-eq1 : goal.returns-else-count-eq1
returns-else-count-eq1 c =
    sym (null-many _ c.args.count c.args.scratch.now c.if-count-eq1.false c.requires)
