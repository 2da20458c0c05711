-- binary_moving::pass_elements: the content is put behind room for its count, then the count and what it is filled up with.
use mathlib.Core.List.{List, []}
use mathlib.Core.Path.{refl, subst}
use Prim.Native.Nat.{◌+◌, ◌≤◌, ℕ}
use Rattle.binary_moving.proofs.Contents.{bytes-moved}
use Rattle.cell_putting.proofs.Elements.{binary-writes, binary2-writes}
use Rattle.cell_putting.proofs.Stores.{puts_lower}
use Rattle.moving.proofs.Puts.{puts_none}
use Rattle.moving.specs.Contents.{AsBinary, ContentMoved, InBinary, MovesContent}
use Rattle.moving.specs.Puts.{Puts}
use Rattle.table.specs.Shape.{shape}
use Rattle.table.specs.declared.Rows.TheVariants.{Binary, Binary2}
use native.Mathlib.Omega.{arith}
use Rattle.binary_moving.proofs.pass_elements.Goals as goal

pub returns-then-row-inner : goal.returns-then-row-inner
returns-then-row-inner c =
    let h = puts_none c.args.row.now c.args.o (omega (arith, c.requires.2)) in record { moves_read = λ from never. h; moves_read_2 = λ from never. h }

pub pass_content-requires : goal.pass_content-requires
pass_content-requires c =
    let z = c.content_bytes-bytes.ensures.0 in
    (c.requires.0, c.requires.1, omega (arith, z, c.if-row-inner.false, c.count_size.ensures.0, c.requires.2))

pub fill_up-requires : goal.fill_up-requires
fill_up-requires c =
    let inner : ℕ = c.args.o + c.count_size.result in
    let mid : List ℕ = c.pass_content.new.row in
    let moved : let a = c.args in ContentMoved (InBinary (shape a.column.kind) a.n a.s.now a.at)
    (AsBinary (shape a.column.kind)) a.row.now inner mid c.in_ok-count.field-0.count c.in_ok-count.field-0.next c.in_ok-count.field-0.end = c.in_ok-count.ensures in
    let x = moved.puts in
    (c.if-count-gt-MOST_ELEMENTS.false, omega (arith, x.long, c.requires.2), omega (arith, x.long, x.room))

pub returns : goal.returns
returns c =
    let inner : ℕ = c.args.o + c.count_size.result in
    let mid : List ℕ = c.pass_content.new.row in
    let moved : let a = c.args in ContentMoved (InBinary (shape a.column.kind) a.n a.s.now a.at)
    (AsBinary (shape a.column.kind)) a.row.now inner mid c.in_ok-count.field-0.count c.in_ok-count.field-0.next c.in_ok-count.field-0.end = c.in_ok-count.ensures in
    let a = c.args in
    let n = c.count_size.ensures.1 c.in_ok-count.field-0.count in
    let some : 1 ≤ c.in_ok-count.field-0.count = omega (arith, c.if-count-eq0.false) in
    let f = c.fill_up in
    record {
      moves_read = λ from never. bytes-moved (InBinary (shape a.column.kind) a.n a.s.now a.at) from a.column never a.row.now a.o inner Binary mid f.new.row _
          _ _ _ f.result
          (λ es m. binary-writes a.column es m) moved refl n some f.ensures;
      moves_read_2 = λ from never. bytes-moved (InBinary (shape a.column.kind) a.n a.s.now a.at) from a.column never a.row.now a.o inner Binary2 mid f.new.row
          _ _ _ _ f.result
          (λ es m. binary2-writes a.column es) moved refl n some f.ensures;
    }

pub shape_of-row-in_err-count : goal.shape_of-row-in_err-count
shape_of-row-in_err-count c =
    let declined : Puts c.args.row.now c.args.o [] c.pass_content.new.row c.args.o = (let x = subst (MovesContent _ _ c.args.row.now (c.args.o + c.count_size.result)
    c.pass_content.new.row) c.in_err-count.was
    c.pass_content.ensures in
    puts_lower x (omega arith)) in
    declined.long

pub returns-in_err-count : goal.returns-in_err-count
returns-in_err-count c =
    let declined : Puts c.args.row.now c.args.o [] c.pass_content.new.row c.args.o = (let x = subst (MovesContent _ _ c.args.row.now (c.args.o + c.count_size.result)
    c.pass_content.new.row) c.in_err-count.was
    c.pass_content.ensures in
    puts_lower x (omega arith)) in
    rw c.from_residual.ensures (record { moves_read = λ from never. declined; moves_read_2 = λ from never. declined })

pub shape_of-row-then-count-eq0 : goal.shape_of-row-then-count-eq0
shape_of-row-then-count-eq0 c =
    let inner : ℕ = c.args.o + c.count_size.result in
    let mid : List ℕ = c.pass_content.new.row in
    let moved : let a = c.args in ContentMoved (InBinary (shape a.column.kind) a.n a.s.now a.at)
    (AsBinary (shape a.column.kind)) a.row.now inner mid c.in_ok-count.field-0.count c.in_ok-count.field-0.next c.in_ok-count.field-0.end = c.in_ok-count.ensures in
    let unfilled : Puts c.args.row.now c.args.o [] mid c.args.o = puts_lower moved.puts (omega arith) in
    unfilled.long

pub returns-then-count-eq0 : goal.returns-then-count-eq0
returns-then-count-eq0 c =
    let inner : ℕ = c.args.o + c.count_size.result in
    let mid : List ℕ = c.pass_content.new.row in
    let moved : let a = c.args in ContentMoved (InBinary (shape a.column.kind) a.n a.s.now a.at)
    (AsBinary (shape a.column.kind)) a.row.now inner mid c.in_ok-count.field-0.count c.in_ok-count.field-0.next c.in_ok-count.field-0.end = c.in_ok-count.ensures in
    let unfilled : Puts c.args.row.now c.args.o [] mid c.args.o = puts_lower moved.puts (omega arith) in
    record { moves_read = λ from never. unfilled; moves_read_2 = λ from never. unfilled }

pub shape_of-row-then-count-gt-MOST_ELEMENTS : goal.shape_of-row-then-count-gt-MOST_ELEMENTS
shape_of-row-then-count-gt-MOST_ELEMENTS c =
    let inner : ℕ = c.args.o + c.count_size.result in
    let mid : List ℕ = c.pass_content.new.row in
    let moved : let a = c.args in ContentMoved (InBinary (shape a.column.kind) a.n a.s.now a.at)
    (AsBinary (shape a.column.kind)) a.row.now inner mid c.in_ok-count.field-0.count c.in_ok-count.field-0.next c.in_ok-count.field-0.end = c.in_ok-count.ensures in
    let unfilled : Puts c.args.row.now c.args.o [] mid c.args.o = puts_lower moved.puts (omega arith) in
    unfilled.long

pub returns-then-count-gt-MOST_ELEMENTS : goal.returns-then-count-gt-MOST_ELEMENTS
returns-then-count-gt-MOST_ELEMENTS c =
    let inner : ℕ = c.args.o + c.count_size.result in
    let mid : List ℕ = c.pass_content.new.row in
    let moved : let a = c.args in ContentMoved (InBinary (shape a.column.kind) a.n a.s.now a.at)
    (AsBinary (shape a.column.kind)) a.row.now inner mid c.in_ok-count.field-0.count c.in_ok-count.field-0.next c.in_ok-count.field-0.end = c.in_ok-count.ensures in
    let unfilled : Puts c.args.row.now c.args.o [] mid c.args.o = puts_lower moved.puts (omega arith) in
    record { moves_read = λ from never. unfilled; moves_read_2 = λ from never. unfilled }
