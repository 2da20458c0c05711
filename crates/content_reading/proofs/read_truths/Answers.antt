-- `content_reading::read_truths` meets its contract: before each turn the words passed over stand in the buffer, one byte each.
use Prim.Native.Nat.{◌+◌, ℕ}
use native.Mathlib.Omega.{arith}
use mathlib.Core.List.{[], ◌∷◌}
use mathlib.Core.Path.{◌∙◌, ◌≡◌, ap}
use lib.IntN.{pos}
use lib.ListN.{get_or, set}
use Rattle.binary.specs.Binary.{number}
use Rattle.content_reading.proofs.Singles.{truth-in-text, truth-small}
use Rattle.content_reading.proofs.Words.{truth-form, truth-puts, truth-words, words_more, words-moved, words-start}
use Rattle.content_reading.specs.Letters.{truth_number}
use Rattle.moving.proofs.Puts.{puts-before}
use Rattle.moving.specs.Contents.{InText}
use Rattle.moving.specs.Puts.{Puts}
use Rattle.number.specs.Number.{to_digits}
use Rattle.table.specs.Cell.{truth_byte}
use Rattle.table.specs.Shape.{Truths}
use borrow.Author.Rules.{rules}
use Rattle.content_reading.proofs.read_truths.Goals as goal

pub loop-at-init : goal.loop-at-init
loop-at-init c = words-start (omega arith) (omega arith)

pub overflow_sub-s : goal.overflow_sub-s
overflow_sub-s c = c.loop-at.invariant.spells.inside

pub shape_of-row-then-s-at-lt2 : goal.shape_of-row-then-s-at-lt2
shape_of-row-then-s-at-lt2 c = c.loop-at.invariant.puts.long

pub returns-then-s-at-lt2 : goal.returns-then-s-at-lt2
returns-then-s-at-lt2 c = puts-before c.loop-at.invariant.puts

pub shape_of-row-then-row-o : goal.shape_of-row-then-row-o
shape_of-row-then-row-o c = c.loop-at.invariant.puts.long

pub returns-then-row-o : goal.returns-then-row-o
returns-then-row-o c = puts-before c.loop-at.invariant.puts

pub bounds-s-at : goal.bounds-s-at
bounds-s-at c = omega (arith, c.loop-at.invariant.spells.inside)

pub shape_of-row-then-z-eq3 : goal.shape_of-row-then-z-eq3
shape_of-row-then-z-eq3 c = c.loop-at.invariant.puts.long

pub returns-then-z-eq3 : goal.returns-then-z-eq3
returns-then-z-eq3 c = puts-before c.loop-at.invariant.puts

pub truth_byte-requires : goal.truth_byte-requires
truth_byte-requires c =
    omega (arith, c.truth_number-z.ensures, truth-small (get_or c.args.s.now c.loop-at.at 0))

pub overflow_add-o : goal.overflow_add-o
overflow_add-o c =
    let letter : ℕ = get_or c.args.s.now c.loop-at.at 0 in
    let put : let l = c.loop-at in Puts l.row l.o (to_digits 256 1 (number Truths (pos (truth_number letter)))) (set l.row l.o c.truth_byte.result) (l.o + 1) = (let l = c.loop-at in
    truth-puts l.row l.o (truth_number letter) c.truth_byte.result (c.truth_byte.ensures ∙ ap (λ (n : ℕ). truth_byte (pos n)) c.truth_number-z.ensures) (omega arith)) in
    let h = put.room in search rules

pub overflow_add-count : goal.overflow_add-count
overflow_add-count c = let r = c.loop-at.invariant in let h = r.few in let k = r.spells.inside in search rules

pub overflow_add-at : goal.overflow_add-at
overflow_add-at c = let k = c.loop-at.invariant.spells.inside in search rules

pub bounds-s-at-in-loop-at : goal.bounds-s-at-in-loop-at
bounds-s-at-in-loop-at c = omega (arith, c.loop-at.invariant.spells.inside)

pub overflow_add-result : goal.overflow_add-result
overflow_add-result c = let k = c.loop-at.invariant.spells.inside in search rules

pub shape_of-row-then-s-at-ne32 : goal.shape_of-row-then-s-at-ne32
shape_of-row-then-s-at-ne32 c =
    let letter : ℕ = get_or c.args.s.now c.loop-at.at 0 in
    let put : let l = c.loop-at in Puts l.row l.o (to_digits 256 1 (number Truths (pos (truth_number letter)))) (set l.row l.o c.truth_byte.result) (l.o + 1) = (let l = c.loop-at in
    truth-puts l.row l.o (truth_number letter) c.truth_byte.result (c.truth_byte.ensures ∙ ap (λ (n : ℕ). truth_byte (pos n)) c.truth_number-z.ensures) (omega arith)) in
    put.long ∙ c.loop-at.invariant.puts.long

pub returns-then-s-at-ne32 : goal.returns-then-s-at-ne32
returns-then-s-at-ne32 c =
    let letter : ℕ = get_or c.args.s.now c.loop-at.at 0 in
    let some : truth_number letter ≡ 3 → ⊥ = λ e. c.if-z-eq3.false (c.truth_number-z.ensures ∙ e) in
    let found : InText Truths c.args.s.now c.loop-at.at (c.loop-at.at + 1) (pos (truth_number letter) ∷ []) = truth-in-text _ _ (omega (arith, c.loop-at.invariant.spells.inside)) some in
    let put : let l = c.loop-at in Puts l.row l.o (to_digits 256 1 (number Truths (pos (truth_number letter)))) (set l.row l.o c.truth_byte.result) (l.o + 1) = (let l = c.loop-at in
    truth-puts l.row l.o (truth_number letter) c.truth_byte.result (c.truth_byte.ensures ∙ ap (λ (n : ℕ). truth_byte (pos n)) c.truth_number-z.ensures) (omega arith)) in
    words-moved truth-words c.loop-at.invariant found put truth-form

pub overflow_add-at-in-loop-at : goal.overflow_add-at-in-loop-at
overflow_add-at-in-loop-at c = let k = c.loop-at.invariant.spells.inside in search rules

pub loop-at-smaller : goal.loop-at-smaller
loop-at-smaller c = omega (arith, c.loop-at.invariant.spells.inside)

pub loop-at-preserved : goal.loop-at-preserved
loop-at-preserved c =
    let letter : ℕ = get_or c.args.s.now c.loop-at.at 0 in
    let some : truth_number letter ≡ 3 → ⊥ = λ e. c.if-z-eq3.false (c.truth_number-z.ensures ∙ e) in
    let found : InText Truths c.args.s.now c.loop-at.at (c.loop-at.at + 1) (pos (truth_number letter) ∷ []) = truth-in-text _ _ (omega (arith, c.loop-at.invariant.spells.inside)) some in
    let put : let l = c.loop-at in Puts l.row l.o (to_digits 256 1 (number Truths (pos (truth_number letter)))) (set l.row l.o c.truth_byte.result) (l.o + 1) = (let l = c.loop-at in
    truth-puts l.row l.o (truth_number letter) c.truth_byte.result (c.truth_byte.ensures ∙ ap (λ (n : ℕ). truth_byte (pos n)) c.truth_number-z.ensures) (omega arith)) in
    let r = c.loop-at.invariant in
    words_more truth-words r found put (omega (arith, r.spells.inside)) c.if-s-at-ne32.false (omega arith)
