-- `content_reading::read_text` meets its contract: before each turn the characters passed over stand in the buffer.
use Rattle.std.specs.Prelude.{Some}
use Prim.Native.Nat.{◌<◌}
use native.Mathlib.Omega.{arith}
use lib.ListN.{length}
use Rattle.content_reading.proofs.Chars.{TextTo, text-letter, text-moved, text-run, text-start}
use Rattle.content_reading.proofs.Runs.{pass-long, pass-passes}
use Rattle.content_reading.specs.Letters.{LetterIs}
use Rattle.moving.proofs.Puts.{puts-before}
use borrow.Author.Rules.{rules}
use Rattle.content_reading.proofs.read_text.Goals as goal

pub loop-from-init : goal.loop-from-init
loop-from-init c = text-start (omega arith) (omega arith)

pub plain_end-end-requires : goal.plain_end-end-requires
plain_end-end-requires c = c.loop-from.invariant.spells.inside

pub overflow_sub-n : goal.overflow_sub-n
overflow_sub-n c = c.plain_end-end.ensures.low

pub overflow_sub-s : goal.overflow_sub-s
overflow_sub-s c = let p = c.plain_end-end.ensures in omega (arith, p.low, p.high)

pub shape_of-row-then-s-end-lt8 : goal.shape_of-row-then-s-end-lt8
shape_of-row-then-s-end-lt8 c = c.loop-from.invariant.puts.long

pub returns-then-s-end-lt8 : goal.returns-then-s-end-lt8
returns-then-s-end-lt8 c = puts-before c.loop-from.invariant.puts

pub overflow_sub-row : goal.overflow_sub-row
overflow_sub-row c = let p = c.loop-from.invariant.puts in omega (arith, p.room, p.long)

pub overflow_add-n : goal.overflow_add-n
overflow_add-n c = let p = c.plain_end-end.ensures in let h = p.high in search rules

pub shape_of-row-then-row-o : goal.shape_of-row-then-row-o
shape_of-row-then-row-o c = c.loop-from.invariant.puts.long

pub returns-then-row-o : goal.returns-then-row-o
returns-then-row-o c = puts-before c.loop-from.invariant.puts

pub copy_wide-o-requires : goal.copy_wide-o-requires
copy_wide-o-requires c =
    let p = c.plain_end-end.ensures in
    let q = c.loop-from.invariant.puts in
    (omega (arith, p.low, p.high), omega (arith, q.room, q.long))

pub bounds-s-end : goal.bounds-s-end
bounds-s-end c = let p = c.plain_end-end.ensures in omega (arith, p.low, p.high)

pub shape_of-row-then-o-first : goal.shape_of-row-then-o-first
shape_of-row-then-o-first c =
    let copied : let a = c.args in TextTo a.s.now a.from c.plain_end-end.result a.row.now a.first c.copy_wide-o.new.row c.copy_wide-o.result =
    text-run c.loop-from.invariant c.plain_end-end.ensures.low (pass-passes c.plain_end-end.ensures) c.copy_wide-o.ensures in
    copied.puts.long

pub returns-then-o-first : goal.returns-then-o-first
returns-then-o-first c =
    let copied : let a = c.args in TextTo a.s.now a.from c.plain_end-end.result a.row.now a.first c.copy_wide-o.new.row c.copy_wide-o.result =
    text-run c.loop-from.invariant c.plain_end-end.ensures.low (pass-passes c.plain_end-end.ensures) c.copy_wide-o.ensures in
    puts-before copied.puts

pub overflow_sub-result : goal.overflow_sub-result
overflow_sub-result c =
    let copied : let a = c.args in TextTo a.s.now a.from c.plain_end-end.result a.row.now a.first c.copy_wide-o.new.row c.copy_wide-o.result =
    text-run c.loop-from.invariant c.plain_end-end.ensures.low (pass-passes c.plain_end-end.ensures) c.copy_wide-o.ensures in
    omega (arith, copied.puts.next-is)

pub shape_of-row-then-s-end-eq60 : goal.shape_of-row-then-s-end-eq60
shape_of-row-then-s-end-eq60 c =
    let copied : let a = c.args in TextTo a.s.now a.from c.plain_end-end.result a.row.now a.first c.copy_wide-o.new.row c.copy_wide-o.result =
    text-run c.loop-from.invariant c.plain_end-end.ensures.low (pass-passes c.plain_end-end.ensures) c.copy_wide-o.ensures in
    copied.puts.long

pub returns-then-s-end-eq60 : goal.returns-then-s-end-eq60
returns-then-s-end-eq60 c =
    let copied : let a = c.args in TextTo a.s.now a.from c.plain_end-end.result a.row.now a.first c.copy_wide-o.new.row c.copy_wide-o.result =
    text-run c.loop-from.invariant c.plain_end-end.ensures.low (pass-passes c.plain_end-end.ensures) c.copy_wide-o.ensures in
    text-moved copied

pub letter_at-requires : goal.letter_at-requires
letter_at-requires c = let p = c.plain_end-end.ensures in omega (arith, p.low, p.high)

pub shape_of-row-in_err-c : goal.shape_of-row-in_err-c
shape_of-row-in_err-c c =
    let copied : let a = c.args in TextTo a.s.now a.from c.plain_end-end.result a.row.now a.first c.copy_wide-o.new.row c.copy_wide-o.result =
    text-run c.loop-from.invariant c.plain_end-end.ensures.low (pass-passes c.plain_end-end.ensures) c.copy_wide-o.ensures in
    copied.puts.long

pub returns-in_err-c : goal.returns-in_err-c
returns-in_err-c c =
    let copied : let a = c.args in TextTo a.s.now a.from c.plain_end-end.result a.row.now a.first c.copy_wide-o.new.row c.copy_wide-o.result =
    text-run c.loop-from.invariant c.plain_end-end.ensures.low (pass-passes c.plain_end-end.ensures) c.copy_wide-o.ensures in
    rw c.from_residual.ensures (puts-before copied.puts)

pub bounds-row-o : goal.bounds-row-o
bounds-row-o c =
    let room : c.copy_wide-o.result < length c.copy_wide-o.new.row = (let q = c.copy_wide-o.ensures in
    omega (arith, pass-long c.plain_end-end.ensures, q.next-is, q.long)) in
    room

pub overflow_add-o : goal.overflow_add-o
overflow_add-o c =
    let copied : let a = c.args in TextTo a.s.now a.from c.plain_end-end.result a.row.now a.first c.copy_wide-o.new.row c.copy_wide-o.result =
    text-run c.loop-from.invariant c.plain_end-end.ensures.low (pass-passes c.plain_end-end.ensures) c.copy_wide-o.ensures in
    let h = copied.puts.room in search rules

pub loop-from-smaller : goal.loop-from-smaller
loop-from-smaller c =
    let letter : LetterIs c.args.s.now c.plain_end-end.result (Some c.in_ok-c.field-0) = c.in_ok-c.ensures in
    let l = letter in let p = c.plain_end-end.ensures in
    omega (arith, p.low, l.2, l.0.inside)

pub loop-from-preserved : goal.loop-from-preserved
loop-from-preserved c =
    let copied : let a = c.args in TextTo a.s.now a.from c.plain_end-end.result a.row.now a.first c.copy_wide-o.new.row c.copy_wide-o.result =
    text-run c.loop-from.invariant c.plain_end-end.ensures.low (pass-passes c.plain_end-end.ensures) c.copy_wide-o.ensures in
    let letter : LetterIs c.args.s.now c.plain_end-end.result (Some c.in_ok-c.field-0) = c.in_ok-c.ensures in
    let room : c.copy_wide-o.result < length c.copy_wide-o.new.row = (let q = c.copy_wide-o.ensures in
    omega (arith, pass-long c.plain_end-end.ensures, q.next-is, q.long)) in
    text-letter copied letter room
