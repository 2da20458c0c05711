-- `content_reading::read_integers` meets its contract: before each turn the words passed over stand in the buffer, each in the bytes of its kind.
use Prim.Native.Nat.{◌<◌, ℕ}
use native.Mathlib.Omega.{arith}
use mathlib.Core.List.{[], ◌∷◌}
use mathlib.Core.Path.{◌∙◌, ◌≡◌, subst}
use lib.IntN.{ℤ}
use lib.ListN.{length}
use mir.Syntax.{w64}
use mir.Val.{of_z, to_z}
use Rattle.binary.specs.Binary.{number}
use Rattle.content_reading.proofs.Words.{whole-form, whole-puts, whole_words, words_more, words-moved, words-start}
use Rattle.moving.proofs.Puts.{puts-before}
use Rattle.moving.specs.Contents.{InText}
use Rattle.moving.specs.Puts.{Puts}
use Rattle.number.proofs.Laws.{size-le}
use Rattle.number.specs.Clauses.{is_signed, size, width_of}
use Rattle.number.specs.Number.{pattern, to_digits}
use Rattle.number.specs.declared.Integer.{Integer}
use Rattle.table.specs.Shape.{Whole}
use Rattle.table.specs.Wrote.{Wrote}
use borrow.Author.Rules.{rules}
use Rattle.content_reading.proofs.read_integers.Goals as goal

pub loop-at-init : goal.loop-at-init
loop-at-init c = words-start (omega arith) (omega arith)

pub overflow_sub-s : goal.overflow_sub-s
overflow_sub-s c = c.loop-at.invariant.spells.inside

pub shape_of-row-then-s-at-lt32 : goal.shape_of-row-then-s-at-lt32
shape_of-row-then-s-at-lt32 c = c.loop-at.invariant.puts.long

pub returns-then-s-at-lt32 : goal.returns-then-s-at-lt32
returns-then-s-at-lt32 c = puts-before c.loop-at.invariant.puts

pub overflow_sub-row : goal.overflow_sub-row
overflow_sub-row c = let p = c.loop-at.invariant.puts in omega (arith, p.room, p.long)

pub shape_of-row-then-row-o-lt8 : goal.shape_of-row-then-row-o-lt8
shape_of-row-then-row-o-lt8 c = c.loop-at.invariant.puts.long

pub returns-then-row-o-lt8 : goal.returns-then-row-o-lt8
returns-then-row-o-lt8 c = puts-before c.loop-at.invariant.puts

pub array_integer-requires : goal.array_integer-requires
array_integer-requires c = omega (arith, c.loop-at.invariant.spells.inside)

pub shape_of-row-in_err-z : goal.shape_of-row-in_err-z
shape_of-row-in_err-z c = c.loop-at.invariant.puts.long

pub returns-in_err-z : goal.returns-in_err-z
returns-in_err-z c = rw c.from_residual.ensures (puts-before c.loop-at.invariant.puts)

pub write_integer-o-requires : goal.write_integer-o-requires
write_integer-o-requires c =
    let p = c.loop-at.invariant.puts in omega (arith, p.room, p.long, size-le c.args.integer)

pub overflow_add-count : goal.overflow_add-count
overflow_add-count c =
    let r = c.loop-at.invariant in
    let h = r.few in let k = r.spells.inside in search rules

pub bounds-s-next : goal.bounds-s-next
bounds-s-next c =
    let next : ℕ = c.in_ok-z.field-0.next in
    let inside : next < length c.args.s.now = c.in_ok-z.ensures.1 in
    let h = inside in search rules

pub shape_of-row-then-s-next-ne32 : goal.shape_of-row-then-s-next-ne32
shape_of-row-then-s-next-ne32 c =
    let z : ℤ = c.in_ok-z.field-0.value in
    let k : Integer = c.args.integer in
    let put : Puts c.loop-at.row c.loop-at.o (to_digits 256 (size k) (number (Whole (is_signed k) (width_of k)) z)) c.write_integer-o.new.out c.write_integer-o.result = (let l = c.loop-at in
    let e : to_z w64 (of_z w64 z) ≡ z = search rules in
    whole-puts (is_signed k) (width_of k) z
    (subst (λ (y : ℤ). Wrote l.row l.o (to_digits 256 (size k) (pattern 8 y)) c.write_integer-o.new.out c.write_integer-o.result) e c.write_integer-o.ensures)
    (omega (arith, l.invariant.puts.room, l.invariant.puts.long))) in
    put.long ∙ c.loop-at.invariant.puts.long

pub returns-then-s-next-ne32 : goal.returns-then-s-next-ne32
returns-then-s-next-ne32 c =
    let z : ℤ = c.in_ok-z.field-0.value in
    let next : ℕ = c.in_ok-z.field-0.next in
    let k : Integer = c.args.integer in
    let found : InText (Whole (is_signed k) (width_of k)) c.args.s.now c.loop-at.at next (z ∷ []) = c.in_ok-z.ensures.0 in
    let put : Puts c.loop-at.row c.loop-at.o (to_digits 256 (size k) (number (Whole (is_signed k) (width_of k)) z)) c.write_integer-o.new.out c.write_integer-o.result = (let l = c.loop-at in
    let e : to_z w64 (of_z w64 z) ≡ z = search rules in
    whole-puts (is_signed k) (width_of k) z
    (subst (λ (y : ℤ). Wrote l.row l.o (to_digits 256 (size k) (pattern 8 y)) c.write_integer-o.new.out c.write_integer-o.result) e c.write_integer-o.ensures)
    (omega (arith, l.invariant.puts.room, l.invariant.puts.long))) in
    let k = c.args.integer in
    words-moved (whole_words _ _) c.loop-at.invariant found put (whole-form (is_signed k) (width_of k))

pub overflow_add-at : goal.overflow_add-at
overflow_add-at c =
    let next : ℕ = c.in_ok-z.field-0.next in
    let inside : next < length c.args.s.now = c.in_ok-z.ensures.1 in
    let h = inside in search rules

pub loop-at-smaller : goal.loop-at-smaller
loop-at-smaller c =
    let z : ℤ = c.in_ok-z.field-0.value in
    let next : ℕ = c.in_ok-z.field-0.next in
    let k : Integer = c.args.integer in
    let found : InText (Whole (is_signed k) (width_of k)) c.args.s.now c.loop-at.at next (z ∷ []) = c.in_ok-z.ensures.0 in
    omega (arith, found.spells.onward)

pub loop-at-preserved : goal.loop-at-preserved
loop-at-preserved c =
    let z : ℤ = c.in_ok-z.field-0.value in
    let next : ℕ = c.in_ok-z.field-0.next in
    let k : Integer = c.args.integer in
    let found : InText (Whole (is_signed k) (width_of k)) c.args.s.now c.loop-at.at next (z ∷ []) = c.in_ok-z.ensures.0 in
    let inside : next < length c.args.s.now = c.in_ok-z.ensures.1 in
    let put : Puts c.loop-at.row c.loop-at.o (to_digits 256 (size k) (number (Whole (is_signed k) (width_of k)) z)) c.write_integer-o.new.out c.write_integer-o.result = (let l = c.loop-at in
    let e : to_z w64 (of_z w64 z) ≡ z = search rules in
    whole-puts (is_signed k) (width_of k) z
    (subst (λ (y : ℤ). Wrote l.row l.o (to_digits 256 (size k) (pattern 8 y)) c.write_integer-o.new.out c.write_integer-o.result) e c.write_integer-o.ensures)
    (omega (arith, l.invariant.puts.room, l.invariant.puts.long))) in
    words_more (whole_words _ _) c.loop-at.invariant found put inside c.if-s-next-ne32.false (omega arith)
