-- `content_reading::read_bytes` meets its contract: before each turn the words passed over stand in the buffer, one byte each.
use Prim.Native.Nat.{◌+◌, ◌≤◌, ℕ}
use native.Mathlib.Omega.{arith}
use mathlib.Core.Bool.{false}
use mathlib.Core.List.{[], ◌∷◌}
use mathlib.Core.Path.{◌∙◌}
use lib.ListN.{length, set}
use Rattle.binary.specs.Binary.{number}
use Rattle.integer_reading.proofs.Digits.{run-in-text}
use Rattle.content_reading.proofs.Words.{byte-puts, whole-form, whole_words, words_more, words-moved, words-start}
use Rattle.moving.proofs.Puts.{puts-before}
use Rattle.moving.specs.Contents.{InText}
use Rattle.moving.specs.Puts.{Puts}
use Rattle.number.specs.Number.{to_digits, with_sign}
use Rattle.number.specs.declared.Integer.TheVariants.{UnsignedByte}
use Rattle.table.specs.Shape.{W1, Whole}
use borrow.Author.Rules.{rules}
use Rattle.content_reading.proofs.read_bytes.Goals as goal

pub loop-at-init : goal.loop-at-init
loop-at-init c = words-start (omega arith) (omega arith)

pub overflow_sub-s : goal.overflow_sub-s
overflow_sub-s c = c.loop-at.invariant.spells.inside

pub shape_of-row-then-s-at-lt4 : goal.shape_of-row-then-s-at-lt4
shape_of-row-then-s-at-lt4 c = c.loop-at.invariant.puts.long

pub returns-then-s-at-lt4 : goal.returns-then-s-at-lt4
returns-then-s-at-lt4 c = puts-before c.loop-at.invariant.puts

pub shape_of-row-then-row-o : goal.shape_of-row-then-row-o
shape_of-row-then-row-o c = c.loop-at.invariant.puts.long

pub returns-then-row-o : goal.returns-then-row-o
returns-then-row-o c = puts-before c.loop-at.invariant.puts

pub three_at-run-requires : goal.three_at-run-requires
three_at-run-requires c = omega (arith, c.loop-at.invariant.spells.inside)

pub shape_of-row-then-digits-eq0 : goal.shape_of-row-then-digits-eq0
shape_of-row-then-digits-eq0 c = c.loop-at.invariant.puts.long

pub returns-then-digits-eq0 : goal.returns-then-digits-eq0
returns-then-digits-eq0 c = puts-before c.loop-at.invariant.puts

pub shape_of-row-then-number-gt255 : goal.shape_of-row-then-number-gt255
shape_of-row-then-number-gt255 c = c.loop-at.invariant.puts.long

pub returns-then-number-gt255 : goal.returns-then-number-gt255
returns-then-number-gt255 c = puts-before c.loop-at.invariant.puts

pub overflow_add-o : goal.overflow_add-o
overflow_add-o c =
    let value : ℕ = c.three_at-run.result.number in
    let put : let l = c.loop-at in Puts l.row l.o (to_digits 256 1 (number (Whole false W1) (with_sign false value))) (set l.row l.o value) (l.o + 1) =
    byte-puts c.loop-at.row c.loop-at.o value (omega arith) (omega arith) in
    let h = put.room in search rules

pub overflow_add-count : goal.overflow_add-count
overflow_add-count c = let r = c.loop-at.invariant in let h = r.few in let k = r.spells.inside in search rules

pub overflow_add-at : goal.overflow_add-at
overflow_add-at c =
    let digits : ℕ = c.three_at-run.result.count in
    let room : c.loop-at.at + digits + 1 ≤ length c.args.s.now = omega (arith, c.three_at-run.ensures.1, c.loop-at.invariant.spells.inside) in
    let h = room in search rules

pub bounds-s-at : goal.bounds-s-at
bounds-s-at c =
    let digits : ℕ = c.three_at-run.result.count in
    let room : c.loop-at.at + digits + 1 ≤ length c.args.s.now = omega (arith, c.three_at-run.ensures.1, c.loop-at.invariant.spells.inside) in
    omega (arith, room)

pub overflow_add-result : goal.overflow_add-result
overflow_add-result c =
    let digits : ℕ = c.three_at-run.result.count in
    let room : c.loop-at.at + digits + 1 ≤ length c.args.s.now = omega (arith, c.three_at-run.ensures.1, c.loop-at.invariant.spells.inside) in
    let h = room in search rules

pub shape_of-row-then-s-at-ne32 : goal.shape_of-row-then-s-at-ne32
shape_of-row-then-s-at-ne32 c =
    let value : ℕ = c.three_at-run.result.number in
    let put : let l = c.loop-at in Puts l.row l.o (to_digits 256 1 (number (Whole false W1) (with_sign false value))) (set l.row l.o value) (l.o + 1) =
    byte-puts c.loop-at.row c.loop-at.o value (omega arith) (omega arith) in
    put.long ∙ c.loop-at.invariant.puts.long

pub returns-then-s-at-ne32 : goal.returns-then-s-at-ne32
returns-then-s-at-ne32 c =
    let digits : ℕ = c.three_at-run.result.count in
    let value : ℕ = c.three_at-run.result.number in
    let found : InText (Whole false W1) c.args.s.now c.loop-at.at (c.loop-at.at + digits) (with_sign false value ∷ []) = let run = c.three_at-run.ensures in
    run-in-text run.0 c.if-digits-eq0.false (omega (arith, run.1)) UnsignedByte (omega arith) in
    let put : let l = c.loop-at in Puts l.row l.o (to_digits 256 1 (number (Whole false W1) (with_sign false value))) (set l.row l.o value) (l.o + 1) =
    byte-puts c.loop-at.row c.loop-at.o value (omega arith) (omega arith) in
    words-moved (whole_words false W1) c.loop-at.invariant found put (whole-form false W1)

pub overflow_add-at-in-loop-at : goal.overflow_add-at-in-loop-at
overflow_add-at-in-loop-at c =
    let digits : ℕ = c.three_at-run.result.count in
    let room : c.loop-at.at + digits + 1 ≤ length c.args.s.now = omega (arith, c.three_at-run.ensures.1, c.loop-at.invariant.spells.inside) in
    let h = room in search rules

pub overflow_add-at-in-loop-at-2 : goal.overflow_add-at-in-loop-at-2
overflow_add-at-in-loop-at-2 c =
    let digits : ℕ = c.three_at-run.result.count in
    let room : c.loop-at.at + digits + 1 ≤ length c.args.s.now = omega (arith, c.three_at-run.ensures.1, c.loop-at.invariant.spells.inside) in
    let h = room in search rules

pub loop-at-smaller : goal.loop-at-smaller
loop-at-smaller c =
    let digits : ℕ = c.three_at-run.result.count in
    let room : c.loop-at.at + digits + 1 ≤ length c.args.s.now = omega (arith, c.three_at-run.ensures.1, c.loop-at.invariant.spells.inside) in
    omega (arith, room)

pub loop-at-preserved : goal.loop-at-preserved
loop-at-preserved c =
    let digits : ℕ = c.three_at-run.result.count in
    let value : ℕ = c.three_at-run.result.number in
    let found : InText (Whole false W1) c.args.s.now c.loop-at.at (c.loop-at.at + digits) (with_sign false value ∷ []) = let run = c.three_at-run.ensures in
    run-in-text run.0 c.if-digits-eq0.false (omega (arith, run.1)) UnsignedByte (omega arith) in
    let put : let l = c.loop-at in Puts l.row l.o (to_digits 256 1 (number (Whole false W1) (with_sign false value))) (set l.row l.o value) (l.o + 1) =
    byte-puts c.loop-at.row c.loop-at.o value (omega arith) (omega arith) in
    let room : c.loop-at.at + digits + 1 ≤ length c.args.s.now = omega (arith, c.three_at-run.ensures.1, c.loop-at.invariant.spells.inside) in
    words_more (whole_words false W1) c.loop-at.invariant found put (omega (arith, room)) c.if-s-at-ne32.false (omega arith)
