-- `content_copying::copy_word` meets its contract: a word that is the shortest of its integer is copied, and another is put by its integer.
use native.Mathlib.Omega.{arith}
use Prim.Native.Nat.{◌<◌}
use lib.ListN.{length}
use Rattle.content_copying.proofs.Own.{copied-place, own-copied}
use Rattle.content_copying.specs.Wording.{OwnWord}
use Rattle.moving.proofs.Puts.{puts_none}
use borrow.Author.Rules.{rules}
use Rattle.content_copying.proofs.copy_word.Goals as goal

pub returns-then-s-at-lt32 : goal.returns-then-s-at-lt32
returns-then-s-at-lt32 c = puts_none _ _ (omega arith)

pub returns-then-end-at : goal.returns-then-end-at
returns-then-end-at c = c.other_word.ensures

pub overflow_sub-end : goal.overflow_sub-end
overflow_sub-end c = omega (arith, (c.word_end-end.ensures c.if-end-at.false).some)

pub copy_wide-e-requires : goal.copy_wide-e-requires
copy_wide-e-requires c = let w = c.word_end-end.ensures c.if-end-at.false in (omega (arith, w.some, w.few), omega (arith, w.few))

pub bounds-row-e : goal.bounds-row-e
bounds-row-e c =
    let own : let a = c.args in OwnWord a.integer a.s.now a.at c.word_end-end.result = c.word_end-end.ensures c.if-end-at.false in
    let room : c.copy_wide-e.result < length c.copy_wide-e.new.row = let q = c.copy_wide-e.ensures in omega (arith, copied-place own q, own.few, q.long) in
    room

pub overflow_add-result : goal.overflow_add-result
overflow_add-result c =
    let own : let a = c.args in OwnWord a.integer a.s.now a.at c.word_end-end.result = c.word_end-end.ensures c.if-end-at.false in
    let room : c.copy_wide-e.result < length c.copy_wide-e.new.row = let q = c.copy_wide-e.ensures in omega (arith, copied-place own q, own.few, q.long) in
    let h = room in search rules

pub shape_of-row : goal.shape_of-row
shape_of-row c =
    let own : let a = c.args in OwnWord a.integer a.s.now a.at c.word_end-end.result = c.word_end-end.ensures c.if-end-at.false in
    let room : c.copy_wide-e.result < length c.copy_wide-e.new.row = let q = c.copy_wide-e.ensures in omega (arith, copied-place own q, own.few, q.long) in
    (own-copied own c.copy_wide-e.ensures room).puts.long

pub returns : goal.returns
returns c =
    let own : let a = c.args in OwnWord a.integer a.s.now a.at c.word_end-end.result = c.word_end-end.ensures c.if-end-at.false in
    let room : c.copy_wide-e.result < length c.copy_wide-e.new.row = let q = c.copy_wide-e.ensures in omega (arith, copied-place own q, own.few, q.long) in
    own-copied own c.copy_wide-e.ensures room
