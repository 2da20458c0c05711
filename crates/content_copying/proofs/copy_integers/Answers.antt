-- `content_copying::copy_integers` meets its contract, once over the width: before each turn the words passed over stand in the buffer, a space behind each.
use Prim.Native.Nat.{◌+◌}
use native.Mathlib.Omega.{arith}
use mathlib.Core.List.{[]}
use mathlib.Core.Path.{◌∙◌, subst}
use Rattle.content_copying.proofs.Spaced.{Worded, WordsTo, whole-worded, words-between, words-few, words_more, words-moved, words-start}
use Rattle.content_copying.specs.Wording.{CopiesWord, WordCopied}
use Rattle.moving.proofs.Puts.{puts-before, puts_then}
use Rattle.moving.specs.Puts.{Puts}
use Rattle.number.specs.Clauses.{is_signed, width_of}
use Rattle.number.specs.Number.{shortest}
use Rattle.number.specs.declared.Integer.{Integer}
use borrow.Author.Rules.{rules}
use Rattle.content_copying.proofs.copy_integers.Goals as goal
use Rattle.content_copying.proofs.copy_integers.Invariants.{kind}

worded : (i : Integer) → Worded (kind i) shortest
worded i = whole-worded (is_signed i) (width_of i)

pub loop-row-init : goal.loop-row-init
loop-row-init c = words-start (worded c.args.integer) (omega arith) (omega arith)

pub overflow_sub-row : goal.overflow_sub-row
overflow_sub-row c = let p = c.loop-row.invariant.so_far.puts in omega (arith, p.room, p.long)

pub shape_of-row-then-row-o-lt40 : goal.shape_of-row-then-row-o-lt40
shape_of-row-then-row-o-lt40 c = c.loop-row.invariant.so_far.puts.long

pub returns-then-row-o-lt40 : goal.returns-then-row-o-lt40
returns-then-row-o-lt40 c = puts-before c.loop-row.invariant.so_far.puts

pub copy_word-requires : goal.copy_word-requires
copy_word-requires c = (c.loop-row.invariant.so_far.spells.inside, omega (arith, c.if-row-o-lt40.false))

pub shape_of-row-in_err-next : goal.shape_of-row-in_err-next
shape_of-row-in_err-next c =
    let declined : Puts c.loop-row.row c.loop-row.o [] c.copy_word.new.row c.loop-row.o = subst (CopiesWord _ _ _ _ _ _) c.in_err-next.was c.copy_word.ensures in
    declined.long ∙ c.loop-row.invariant.so_far.puts.long

pub returns-in_err-next : goal.returns-in_err-next
returns-in_err-next c =
    let declined : Puts c.loop-row.row c.loop-row.o [] c.copy_word.new.row c.loop-row.o = subst (CopiesWord _ _ _ _ _ _) c.in_err-next.was c.copy_word.ensures in
    rw c.from_residual.ensures (puts-before (puts_then c.loop-row.invariant.so_far.puts declined))

pub overflow_add-count : goal.overflow_add-count
overflow_add-count c =
    let how : Worded (kind c.args.integer) shortest = worded c.args.integer in
    let one : WordCopied c.args.integer c.args.s.now c.loop-row.at c.loop-row.row c.loop-row.o c.copy_word.new.row c.in_ok-next.field-0.next c.in_ok-next.field-0.end = c.in_ok-next.ensures in
    let copied : let a = c.args in WordsTo (kind a.integer) shortest a.s.now a.from c.in_ok-next.field-0.next a.row.now a.first c.copy_word.new.row c.in_ok-next.field-0.end (c.loop-row.count + 1) =
    words_more how c.loop-row.invariant one.reads one.puts in
    let r = copied in let h = words-few r in let k = r.puts.room in search rules

pub shape_of-row-then-s-next : goal.shape_of-row-then-s-next
shape_of-row-then-s-next c =
    let how : Worded (kind c.args.integer) shortest = worded c.args.integer in
    let one : WordCopied c.args.integer c.args.s.now c.loop-row.at c.loop-row.row c.loop-row.o c.copy_word.new.row c.in_ok-next.field-0.next c.in_ok-next.field-0.end = c.in_ok-next.ensures in
    let copied : let a = c.args in WordsTo (kind a.integer) shortest a.s.now a.from c.in_ok-next.field-0.next a.row.now a.first c.copy_word.new.row c.in_ok-next.field-0.end (c.loop-row.count + 1) =
    words_more how c.loop-row.invariant one.reads one.puts in
    copied.puts.long

pub returns-then-s-next : goal.returns-then-s-next
returns-then-s-next c =
    let how : Worded (kind c.args.integer) shortest = worded c.args.integer in
    let one : WordCopied c.args.integer c.args.s.now c.loop-row.at c.loop-row.row c.loop-row.o c.copy_word.new.row c.in_ok-next.field-0.next c.in_ok-next.field-0.end = c.in_ok-next.ensures in
    let copied : let a = c.args in WordsTo (kind a.integer) shortest a.s.now a.from c.in_ok-next.field-0.next a.row.now a.first c.copy_word.new.row c.in_ok-next.field-0.end (c.loop-row.count + 1) =
    words_more how c.loop-row.invariant one.reads one.puts in
    puts-before copied.puts

pub overflow_sub-result : goal.overflow_sub-result
overflow_sub-result c =
    let how : Worded (kind c.args.integer) shortest = worded c.args.integer in
    let one : WordCopied c.args.integer c.args.s.now c.loop-row.at c.loop-row.row c.loop-row.o c.copy_word.new.row c.in_ok-next.field-0.next c.in_ok-next.field-0.end = c.in_ok-next.ensures in
    let copied : let a = c.args in WordsTo (kind a.integer) shortest a.s.now a.from c.in_ok-next.field-0.next a.row.now a.first c.copy_word.new.row c.in_ok-next.field-0.end (c.loop-row.count + 1) =
    words_more how c.loop-row.invariant one.reads one.puts in
    omega (arith, words-few copied)

pub shape_of-row-then-s-next-ne32 : goal.shape_of-row-then-s-next-ne32
shape_of-row-then-s-next-ne32 c =
    let how : Worded (kind c.args.integer) shortest = worded c.args.integer in
    let one : WordCopied c.args.integer c.args.s.now c.loop-row.at c.loop-row.row c.loop-row.o c.copy_word.new.row c.in_ok-next.field-0.next c.in_ok-next.field-0.end = c.in_ok-next.ensures in
    let copied : let a = c.args in WordsTo (kind a.integer) shortest a.s.now a.from c.in_ok-next.field-0.next a.row.now a.first c.copy_word.new.row c.in_ok-next.field-0.end (c.loop-row.count + 1) =
    words_more how c.loop-row.invariant one.reads one.puts in
    copied.puts.long

pub returns-then-s-next-ne32 : goal.returns-then-s-next-ne32
returns-then-s-next-ne32 c =
    let how : Worded (kind c.args.integer) shortest = worded c.args.integer in
    let one : WordCopied c.args.integer c.args.s.now c.loop-row.at c.loop-row.row c.loop-row.o c.copy_word.new.row c.in_ok-next.field-0.next c.in_ok-next.field-0.end = c.in_ok-next.ensures in
    let copied : let a = c.args in WordsTo (kind a.integer) shortest a.s.now a.from c.in_ok-next.field-0.next a.row.now a.first c.copy_word.new.row c.in_ok-next.field-0.end (c.loop-row.count + 1) =
    words_more how c.loop-row.invariant one.reads one.puts in
    words-moved how copied (omega arith)

pub loop-row-smaller : goal.loop-row-smaller
loop-row-smaller c =
    let one : WordCopied c.args.integer c.args.s.now c.loop-row.at c.loop-row.row c.loop-row.o c.copy_word.new.row c.in_ok-next.field-0.next c.in_ok-next.field-0.end = c.in_ok-next.ensures in
    omega (arith, one.reads.spells.onward)

pub loop-row-preserved : goal.loop-row-preserved
loop-row-preserved c =
    let how : Worded (kind c.args.integer) shortest = worded c.args.integer in
    let one : WordCopied c.args.integer c.args.s.now c.loop-row.at c.loop-row.row c.loop-row.o c.copy_word.new.row c.in_ok-next.field-0.next c.in_ok-next.field-0.end = c.in_ok-next.ensures in
    let copied : let a = c.args in WordsTo (kind a.integer) shortest a.s.now a.from c.in_ok-next.field-0.next a.row.now a.first c.copy_word.new.row c.in_ok-next.field-0.end (c.loop-row.count + 1) =
    words_more how c.loop-row.invariant one.reads one.puts in
    words-between how copied (omega arith) c.if-s-next-ne32.false
