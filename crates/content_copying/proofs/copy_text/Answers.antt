-- `content_copying::copy_text` meets its contract: before each turn the characters passed over stand in the buffer as they are written.
use Rattle.std.specs.Prelude.{Some}
use Prim.Native.Nat.{◌+◌, ◌-◌, ◌≤◌}
use native.Mathlib.Omega.{arith}
use mathlib.Core.Path.{◌∙◌}
use lib.ListN.{length}
use Rattle.content_reading.proofs.Runs.{pass-copied}
use Rattle.content_copying.proofs.Texts.{TextTo, text-letter, text-moved, text-run, text-start}
use Rattle.content_reading.specs.Letters.{LetterIs}
use Rattle.moving.proofs.Puts.{puts-before, puts_then}
use borrow.Author.Rules.{rules}
use Rattle.content_copying.proofs.copy_text.Goals as goal

pub loop-from-init : goal.loop-from-init
loop-from-init c = text-start (omega arith) (omega arith)

pub run_end-end-requires : goal.run_end-end-requires
run_end-end-requires c = c.loop-from.invariant.spells.inside

pub overflow_sub-n : goal.overflow_sub-n
overflow_sub-n c = c.run_end-end.ensures.low

pub overflow_sub-s : goal.overflow_sub-s
overflow_sub-s c = c.run_end-end.ensures.high

pub shape_of-row-then-s-end-lt8 : goal.shape_of-row-then-s-end-lt8
shape_of-row-then-s-end-lt8 c = c.loop-from.invariant.puts.long

pub returns-then-s-end-lt8 : goal.returns-then-s-end-lt8
returns-then-s-end-lt8 c = puts-before c.loop-from.invariant.puts

pub overflow_sub-row : goal.overflow_sub-row
overflow_sub-row c = let p = c.loop-from.invariant.puts in omega (arith, p.room, p.long)

pub overflow_add-n : goal.overflow_add-n
overflow_add-n c = let h = c.run_end-end.ensures.high in search rules

pub shape_of-row-then-row-o : goal.shape_of-row-then-row-o
shape_of-row-then-row-o c = c.loop-from.invariant.puts.long

pub returns-then-row-o : goal.returns-then-row-o
returns-then-row-o c = puts-before c.loop-from.invariant.puts

pub copy_wide-e-requires : goal.copy_wide-e-requires
copy_wide-e-requires c =
    let p = c.run_end-end.ensures in
    let q = c.loop-from.invariant.puts in
    (omega (arith, p.low, p.high), omega (arith, q.room, q.long))

pub overflow_add-count : goal.overflow_add-count
overflow_add-count c =
    let copied : let a = c.args in TextTo a.s.now a.from c.run_end-end.result a.row.now a.first c.copy_wide-e.new.row c.copy_wide-e.result
    (c.loop-from.count + (c.run_end-end.result - c.loop-from.at)) = text-run c.loop-from.invariant c.run_end-end.ensures c.copy_wide-e.ensures in
    let r = copied in let h = r.few in let k = r.spells.inside in search rules

pub bounds-s-end : goal.bounds-s-end
bounds-s-end c = let p = c.run_end-end.ensures in omega (arith, p.high)

pub shape_of-row-then-count-eq0 : goal.shape_of-row-then-count-eq0
shape_of-row-then-count-eq0 c =
    let copied : let a = c.args in TextTo a.s.now a.from c.run_end-end.result a.row.now a.first c.copy_wide-e.new.row c.copy_wide-e.result
    (c.loop-from.count + (c.run_end-end.result - c.loop-from.at)) = text-run c.loop-from.invariant c.run_end-end.ensures c.copy_wide-e.ensures in
    copied.puts.long

pub returns-then-count-eq0 : goal.returns-then-count-eq0
returns-then-count-eq0 c =
    let copied : let a = c.args in TextTo a.s.now a.from c.run_end-end.result a.row.now a.first c.copy_wide-e.new.row c.copy_wide-e.result
    (c.loop-from.count + (c.run_end-end.result - c.loop-from.at)) = text-run c.loop-from.invariant c.run_end-end.ensures c.copy_wide-e.ensures in
    puts-before copied.puts

pub shape_of-row-then-s-end-eq60 : goal.shape_of-row-then-s-end-eq60
shape_of-row-then-s-end-eq60 c =
    let copied : let a = c.args in TextTo a.s.now a.from c.run_end-end.result a.row.now a.first c.copy_wide-e.new.row c.copy_wide-e.result
    (c.loop-from.count + (c.run_end-end.result - c.loop-from.at)) = text-run c.loop-from.invariant c.run_end-end.ensures c.copy_wide-e.ensures in
    copied.puts.long

pub returns-then-s-end-eq60 : goal.returns-then-s-end-eq60
returns-then-s-end-eq60 c =
    let copied : let a = c.args in TextTo a.s.now a.from c.run_end-end.result a.row.now a.first c.copy_wide-e.new.row c.copy_wide-e.result
    (c.loop-from.count + (c.run_end-end.result - c.loop-from.at)) = text-run c.loop-from.invariant c.run_end-end.ensures c.copy_wide-e.ensures in
    text-moved copied

pub other_letter-requires : goal.other_letter-requires
other_letter-requires c = let p = c.run_end-end.ensures in omega (arith, p.high)

pub shape_of-row-in_err-c : goal.shape_of-row-in_err-c
shape_of-row-in_err-c c =
    let copied : let a = c.args in TextTo a.s.now a.from c.run_end-end.result a.row.now a.first c.copy_wide-e.new.row c.copy_wide-e.result
    (c.loop-from.count + (c.run_end-end.result - c.loop-from.at)) = text-run c.loop-from.invariant c.run_end-end.ensures c.copy_wide-e.ensures in
    copied.puts.long

pub returns-in_err-c : goal.returns-in_err-c
returns-in_err-c c =
    let copied : let a = c.args in TextTo a.s.now a.from c.run_end-end.result a.row.now a.first c.copy_wide-e.new.row c.copy_wide-e.result
    (c.loop-from.count + (c.run_end-end.result - c.loop-from.at)) = text-run c.loop-from.invariant c.run_end-end.ensures c.copy_wide-e.ensures in
    rw c.from_residual.ensures (puts-before copied.puts)

pub put_reference-o-requires : goal.put_reference-o-requires
put_reference-o-requires c =
    let room : c.copy_wide-e.result + 8 ≤ length c.copy_wide-e.new.row = let q = c.copy_wide-e.ensures in omega (arith, pass-copied c.run_end-end.ensures q, q.long) in
    room

pub shape_of-row-then-o-e : goal.shape_of-row-then-o-e
shape_of-row-then-o-e c =
    let copied : let a = c.args in TextTo a.s.now a.from c.run_end-end.result a.row.now a.first c.copy_wide-e.new.row c.copy_wide-e.result
    (c.loop-from.count + (c.run_end-end.result - c.loop-from.at)) = text-run c.loop-from.invariant c.run_end-end.ensures c.copy_wide-e.ensures in
    c.put_reference-o.ensures.long ∙ copied.puts.long

pub returns-then-o-e : goal.returns-then-o-e
returns-then-o-e c =
    let copied : let a = c.args in TextTo a.s.now a.from c.run_end-end.result a.row.now a.first c.copy_wide-e.new.row c.copy_wide-e.result
    (c.loop-from.count + (c.run_end-end.result - c.loop-from.at)) = text-run c.loop-from.invariant c.run_end-end.ensures c.copy_wide-e.ensures in
    puts-before (puts_then copied.puts c.put_reference-o.ensures)

pub overflow_add-count-in-loop-from : goal.overflow_add-count-in-loop-from
overflow_add-count-in-loop-from c =
    let copied : let a = c.args in TextTo a.s.now a.from c.run_end-end.result a.row.now a.first c.copy_wide-e.new.row c.copy_wide-e.result
    (c.loop-from.count + (c.run_end-end.result - c.loop-from.at)) = text-run c.loop-from.invariant c.run_end-end.ensures c.copy_wide-e.ensures in
    let letter : LetterIs c.args.s.now c.run_end-end.result (Some c.in_ok-c.field-0) = c.in_ok-c.ensures in
    let r = copied in
    let l = letter in
    let h = r.few in let k = l.0.inside in let m = l.2 in search rules

pub loop-from-smaller : goal.loop-from-smaller
loop-from-smaller c =
    let letter : LetterIs c.args.s.now c.run_end-end.result (Some c.in_ok-c.field-0) = c.in_ok-c.ensures in
    let l = letter in
    let p = c.run_end-end.ensures in omega (arith, p.low, l.2, l.0.inside)

pub loop-from-preserved : goal.loop-from-preserved
loop-from-preserved c =
    let copied : let a = c.args in TextTo a.s.now a.from c.run_end-end.result a.row.now a.first c.copy_wide-e.new.row c.copy_wide-e.result
    (c.loop-from.count + (c.run_end-end.result - c.loop-from.at)) = text-run c.loop-from.invariant c.run_end-end.ensures c.copy_wide-e.ensures in
    let letter : LetterIs c.args.s.now c.run_end-end.result (Some c.in_ok-c.field-0) = c.in_ok-c.ensures in
    text-letter copied letter c.if-o-e.false c.put_reference-o.ensures
