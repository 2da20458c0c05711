-- binary_moving::show_elements: the content stands between its tags.
use mathlib.Core.List.{List, []}
use mathlib.Core.Path.{subst}
use Prim.Native.Nat.{ℕ}
use Rattle.binary_moving.proofs.Contents.{text-moved}
use Rattle.moving.proofs.Puts.{puts-before, puts_then}
use Rattle.moving.specs.Contents.{AsText, ContentMoved, InBinary, MovesContent}
use Rattle.moving.specs.Puts.{Puts}
use Rattle.table.specs.Shape.{shape}
use native.Mathlib.Omega.{arith}
use Rattle.binary_moving.proofs.show_elements.Goals as goal

pub show_content-requires : goal.show_content-requires
show_content-requires c =
    let u = c.put_open-inner.ensures in
    (c.requires.0, c.requires.1, omega (arith, u.next-is, u.long, u.room))

pub overflow_sub-row : goal.overflow_sub-row
overflow_sub-row c =
    let opened : List ℕ = c.put_open-inner.new.row in
    let inner : ℕ = c.put_open-inner.result in
    let mid : List ℕ = c.show_content.new.row in
    let moved : let a = c.args in ContentMoved (InBinary (shape a.column.kind) a.n a.s.now a.at)
    (AsText (shape a.column.kind)) opened inner mid c.in_ok-count.field-0.count c.in_ok-count.field-0.next c.in_ok-count.field-0.end = c.in_ok-count.ensures in
    let x = moved.puts in omega (arith, x.long, x.room)

pub put_close-e-requires : goal.put_close-e-requires
put_close-e-requires c =
    let opened : List ℕ = c.put_open-inner.new.row in
    let inner : ℕ = c.put_open-inner.result in
    let mid : List ℕ = c.show_content.new.row in
    let moved : let a = c.args in ContentMoved (InBinary (shape a.column.kind) a.n a.s.now a.at)
    (AsText (shape a.column.kind)) opened inner mid c.in_ok-count.field-0.count c.in_ok-count.field-0.next c.in_ok-count.field-0.end = c.in_ok-count.ensures in
    let x = moved.puts in omega (arith, c.if-row-end-lt8.false, x.long, x.room)

pub returns : goal.returns
returns c =
    let opened : List ℕ = c.put_open-inner.new.row in
    let inner : ℕ = c.put_open-inner.result in
    let mid : List ℕ = c.show_content.new.row in
    let moved : let a = c.args in ContentMoved (InBinary (shape a.column.kind) a.n a.s.now a.at)
    (AsText (shape a.column.kind)) opened inner mid c.in_ok-count.field-0.count c.in_ok-count.field-0.next c.in_ok-count.field-0.end = c.in_ok-count.ensures in
    let a = c.args in
    λ from never. text-moved (InBinary (shape a.column.kind) a.n a.s.now a.at) from a.column never a.row.now a.o inner opened mid _ _ _ _ _
    c.put_open-inner.ensures moved (omega (arith, c.if-count-eq0.false))
    c.put_close-e.ensures

pub shape_of-row-in_err-count : goal.shape_of-row-in_err-count
shape_of-row-in_err-count c =
    let declined : Puts c.args.row.now c.args.o [] c.show_content.new.row c.args.o = (let u = c.put_open-inner in
    let x = subst (MovesContent _ _ u.new.row u.result c.show_content.new.row) c.in_err-count.was
    c.show_content.ensures in
    puts-before (puts_then u.ensures x)) in
    declined.long

pub returns-in_err-count : goal.returns-in_err-count
returns-in_err-count c =
    let declined : Puts c.args.row.now c.args.o [] c.show_content.new.row c.args.o = (let u = c.put_open-inner in
    let x = subst (MovesContent _ _ u.new.row u.result c.show_content.new.row) c.in_err-count.was
    c.show_content.ensures in
    puts-before (puts_then u.ensures x)) in
    rw c.from_residual.ensures (λ from never. declined)

pub shape_of-row-then-count-eq0 : goal.shape_of-row-then-count-eq0
shape_of-row-then-count-eq0 c =
    let opened : List ℕ = c.put_open-inner.new.row in
    let inner : ℕ = c.put_open-inner.result in
    let mid : List ℕ = c.show_content.new.row in
    let moved : let a = c.args in ContentMoved (InBinary (shape a.column.kind) a.n a.s.now a.at)
    (AsText (shape a.column.kind)) opened inner mid c.in_ok-count.field-0.count c.in_ok-count.field-0.next c.in_ok-count.field-0.end = c.in_ok-count.ensures in
    let unclosed : Puts c.args.row.now c.args.o [] mid c.args.o = puts-before (puts_then c.put_open-inner.ensures moved.puts) in
    unclosed.long

pub returns-then-count-eq0 : goal.returns-then-count-eq0
returns-then-count-eq0 c =
    let opened : List ℕ = c.put_open-inner.new.row in
    let inner : ℕ = c.put_open-inner.result in
    let mid : List ℕ = c.show_content.new.row in
    let moved : let a = c.args in ContentMoved (InBinary (shape a.column.kind) a.n a.s.now a.at)
    (AsText (shape a.column.kind)) opened inner mid c.in_ok-count.field-0.count c.in_ok-count.field-0.next c.in_ok-count.field-0.end = c.in_ok-count.ensures in
    let unclosed : Puts c.args.row.now c.args.o [] mid c.args.o = puts-before (puts_then c.put_open-inner.ensures moved.puts) in
    λ from never. unclosed

pub shape_of-row-then-row-end-lt8 : goal.shape_of-row-then-row-end-lt8
shape_of-row-then-row-end-lt8 c =
    let opened : List ℕ = c.put_open-inner.new.row in
    let inner : ℕ = c.put_open-inner.result in
    let mid : List ℕ = c.show_content.new.row in
    let moved : let a = c.args in ContentMoved (InBinary (shape a.column.kind) a.n a.s.now a.at)
    (AsText (shape a.column.kind)) opened inner mid c.in_ok-count.field-0.count c.in_ok-count.field-0.next c.in_ok-count.field-0.end = c.in_ok-count.ensures in
    let unclosed : Puts c.args.row.now c.args.o [] mid c.args.o = puts-before (puts_then c.put_open-inner.ensures moved.puts) in
    unclosed.long

pub returns-then-row-end-lt8 : goal.returns-then-row-end-lt8
returns-then-row-end-lt8 c =
    let opened : List ℕ = c.put_open-inner.new.row in
    let inner : ℕ = c.put_open-inner.result in
    let mid : List ℕ = c.show_content.new.row in
    let moved : let a = c.args in ContentMoved (InBinary (shape a.column.kind) a.n a.s.now a.at)
    (AsText (shape a.column.kind)) opened inner mid c.in_ok-count.field-0.count c.in_ok-count.field-0.next c.in_ok-count.field-0.end = c.in_ok-count.ensures in
    let unclosed : Puts c.args.row.now c.args.o [] mid c.args.o = puts-before (puts_then c.put_open-inner.ensures moved.puts) in
    λ from never. unclosed
