-- `content_copying::copy_truths` meets its contract: before each turn the words passed over stand in the buffer, a space behind each.
use Prim.Native.Nat.{◌+◌}
use native.Mathlib.Omega.{arith}
use mathlib.Core.List.{[], ◌++◌, ◌∷◌}
use mathlib.Core.Path.{◌≡◌, ap}
use lib.IntN.{ℤ}
use mir.Syntax.{w64}
use mir.Val.{of_z, to_z}
use Rattle.content_copying.proofs.Spaced.{WordsTo, truths-worded, words-between, words-few, words_more, words-moved, words-start}
use Rattle.moving.proofs.Puts.{puts-as, puts-before}
use Rattle.moving.specs.Contents.{InText}
use Rattle.table.specs.Shape.{Truths}
use Rattle.tabledata.specs.TableData.{truth_text}
use borrow.Author.Rules.{rules}
use Rattle.content_copying.proofs.copy_truths.Goals as goal

pub loop-z-init : goal.loop-z-init
loop-z-init c = words-start truths-worded (omega arith) (omega arith)

pub text_truth-requires : goal.text_truth-requires
text_truth-requires c = c.loop-z.invariant.so_far.spells.inside

pub shape_of-row-in_err-z : goal.shape_of-row-in_err-z
shape_of-row-in_err-z c = c.loop-z.invariant.so_far.puts.long

pub returns-in_err-z : goal.returns-in_err-z
returns-in_err-z c = rw c.from_residual.ensures (puts-before c.loop-z.invariant.so_far.puts)

pub shape_of-row-then-s-next : goal.shape_of-row-then-s-next
shape_of-row-then-s-next c = c.loop-z.invariant.so_far.puts.long

pub returns-then-s-next : goal.returns-then-s-next
returns-then-s-next c = puts-before c.loop-z.invariant.so_far.puts

pub overflow_sub-row : goal.overflow_sub-row
overflow_sub-row c = let p = c.loop-z.invariant.so_far.puts in omega (arith, p.room, p.long)

pub shape_of-row-then-row-o-lt2 : goal.shape_of-row-then-row-o-lt2
shape_of-row-then-row-o-lt2 c = c.loop-z.invariant.so_far.puts.long

pub returns-then-row-o-lt2 : goal.returns-then-row-o-lt2
returns-then-row-o-lt2 c = puts-before c.loop-z.invariant.so_far.puts

pub put_truth-o-requires : goal.put_truth-o-requires
put_truth-o-requires c = omega (arith, c.if-row-o-lt2.false)

pub overflow_add-count : goal.overflow_add-count
overflow_add-count c =
    let z : ℤ = c.in_ok-z.field-0.value in
    let read : InText Truths c.args.s.now c.loop-z.at c.in_ok-z.field-0.next (z ∷ []) = c.in_ok-z.ensures in
    let copied : let a = c.args in WordsTo Truths truth_text a.s.now a.from c.in_ok-z.field-0.next a.row.now a.first c.put_truth-o.new.row c.put_truth-o.result (c.loop-z.count + 1) =
    (let e : to_z w64 (of_z w64 z) ≡ z = search rules in
    words_more truths-worded c.loop-z.invariant read (puts-as (ap (λ (y : ℤ). truth_text y ++ (32 ∷ [])) e) c.put_truth-o.ensures)) in
    let r = copied in let h = words-few r in let k = r.puts.room in search rules

pub bounds-s-next : goal.bounds-s-next
bounds-s-next c = omega arith

pub overflow_sub-result : goal.overflow_sub-result
overflow_sub-result c =
    let z : ℤ = c.in_ok-z.field-0.value in
    let read : InText Truths c.args.s.now c.loop-z.at c.in_ok-z.field-0.next (z ∷ []) = c.in_ok-z.ensures in
    let copied : let a = c.args in WordsTo Truths truth_text a.s.now a.from c.in_ok-z.field-0.next a.row.now a.first c.put_truth-o.new.row c.put_truth-o.result (c.loop-z.count + 1) =
    (let e : to_z w64 (of_z w64 z) ≡ z = search rules in
    words_more truths-worded c.loop-z.invariant read (puts-as (ap (λ (y : ℤ). truth_text y ++ (32 ∷ [])) e) c.put_truth-o.ensures)) in
    omega (arith, words-few copied)

pub shape_of-row-then-s-next-ne32 : goal.shape_of-row-then-s-next-ne32
shape_of-row-then-s-next-ne32 c =
    let z : ℤ = c.in_ok-z.field-0.value in
    let read : InText Truths c.args.s.now c.loop-z.at c.in_ok-z.field-0.next (z ∷ []) = c.in_ok-z.ensures in
    let copied : let a = c.args in WordsTo Truths truth_text a.s.now a.from c.in_ok-z.field-0.next a.row.now a.first c.put_truth-o.new.row c.put_truth-o.result (c.loop-z.count + 1) =
    (let e : to_z w64 (of_z w64 z) ≡ z = search rules in
    words_more truths-worded c.loop-z.invariant read (puts-as (ap (λ (y : ℤ). truth_text y ++ (32 ∷ [])) e) c.put_truth-o.ensures)) in
    copied.puts.long

pub returns-then-s-next-ne32 : goal.returns-then-s-next-ne32
returns-then-s-next-ne32 c =
    let z : ℤ = c.in_ok-z.field-0.value in
    let read : InText Truths c.args.s.now c.loop-z.at c.in_ok-z.field-0.next (z ∷ []) = c.in_ok-z.ensures in
    let copied : let a = c.args in WordsTo Truths truth_text a.s.now a.from c.in_ok-z.field-0.next a.row.now a.first c.put_truth-o.new.row c.put_truth-o.result (c.loop-z.count + 1) =
    (let e : to_z w64 (of_z w64 z) ≡ z = search rules in
    words_more truths-worded c.loop-z.invariant read (puts-as (ap (λ (y : ℤ). truth_text y ++ (32 ∷ [])) e) c.put_truth-o.ensures)) in
    words-moved truths-worded copied (omega arith)

pub overflow_add-at : goal.overflow_add-at
overflow_add-at c = search rules

pub loop-z-smaller : goal.loop-z-smaller
loop-z-smaller c =
    let z : ℤ = c.in_ok-z.field-0.value in
    let read : InText Truths c.args.s.now c.loop-z.at c.in_ok-z.field-0.next (z ∷ []) = c.in_ok-z.ensures in
    omega (arith, read.spells.onward)

pub loop-z-preserved : goal.loop-z-preserved
loop-z-preserved c =
    let z : ℤ = c.in_ok-z.field-0.value in
    let read : InText Truths c.args.s.now c.loop-z.at c.in_ok-z.field-0.next (z ∷ []) = c.in_ok-z.ensures in
    let copied : let a = c.args in WordsTo Truths truth_text a.s.now a.from c.in_ok-z.field-0.next a.row.now a.first c.put_truth-o.new.row c.put_truth-o.result (c.loop-z.count + 1) =
    (let e : to_z w64 (of_z w64 z) ≡ z = search rules in
    words_more truths-worded c.loop-z.invariant read (puts-as (ap (λ (y : ℤ). truth_text y ++ (32 ∷ [])) e) c.put_truth-o.ensures)) in
    words-between truths-worded copied (omega arith) c.if-s-next-ne32.false
