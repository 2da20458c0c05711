-- binary_moving::move_unflagged: a scalar by its one element, everything else by all of them.
use mathlib.Core.Path.{subst, sym}
use Prim.Native.Nat.{ℕ}
use Rattle.binary_moving.proofs.Counted.{size-most}
use Rattle.cell_putting.specs.Clauses.{ScalarIs}
use Rattle.moving.proofs.Puts.{puts_none}
use Rattle.moving.specs.Cells.{MovesRead}
use Rattle.moving.specs.Contents.{InBinary}
use Rattle.table.specs.Shape.{shape}
use native.Mathlib.Omega.{arith}
use Rattle.binary_moving.proofs.move_unflagged.Goals as goal

pub returns-then-n-ne1 : goal.returns-then-n-ne1
returns-then-n-ne1 c = λ from. puts_none c.args.row.now c.args.o (omega (arith, c.requires.3))

pub move_integer-requires : goal.move_integer-requires
move_integer-requires c =
    (c.requires.0, omega (arith, size-most c.in-Some-Integer.integer, c.requires.2), c.requires.3)

pub returns-then-n-ne1-2 : goal.returns-then-n-ne1-2
returns-then-n-ne1-2 c = λ from. puts_none c.args.row.now c.args.o (omega (arith, c.requires.3))

pub move_truth-requires : goal.move_truth-requires
move_truth-requires c = (c.requires.0, omega (arith, c.requires.2), c.requires.3)

pub returns-else-n-ne1 : goal.returns-else-n-ne1
returns-else-n-ne1 c =
    let x = rw c.in-Some-Integer.field-0-is at c.in-Some-Integer.ensures in
    let m = c.move_integer in
    λ from. subst (λ (n : ℕ). MovesRead (InBinary (shape c.args.column.kind) n c.args.s.now c.args.at) from c.args.to c.args.column c.args.row.now c.args.o
    m.new.row m.result) (sym c.if-n-ne1.false) (m.ensures from x.0 x.1)

pub returns-else-n-ne1-2 : goal.returns-else-n-ne1-2
returns-else-n-ne1-2 c =
    let x = rw c.in-Some-Truth.field-0-is at c.in-Some-Truth.ensures in
    let m = c.move_truth in
    λ from. subst (λ (n : ℕ). MovesRead (InBinary (shape c.args.column.kind) n c.args.s.now c.args.at) from c.args.to c.args.column c.args.row.now c.args.o
    m.new.row m.result) (sym c.if-n-ne1-2.false) (m.ensures from x.0 x.1)

pub returns-in-None : goal.returns-in-None
returns-in-None c =
    λ from. c.move_elements.ensures from (subst (ScalarIs c.args.column) c.in-None.is
    c.scalar_of.ensures)
