-- `content_showing::show_text` meets its contract: before each turn the first k bytes are put as what they show.
use Prim.Native.Nat.{◌+◌, ◌-◌, ◌<◌, ◌≤◌}
use mathlib.Core.Path.{◌∙◌, refl}
use lib.ListN.{drop, length, length-take, take}
use Rattle.content_showing.proofs.Marked.{run-most}
use Rattle.content_showing.specs.Showing.{is_itself}
use Rattle.content_showing.proofs.Text.{TextPut, moved_all, moved-nul, part-long, put-char, put-run, text-start}
use Rattle.moving.proofs.Puts.{puts-before, puts_none, puts_then}
use native.Mathlib.Omega.{arith}
use borrow.Author.Rules.{rules}
use Rattle.content_showing.proofs.show_text.Goals as goal

pub loop-row-init : goal.loop-row-init
loop-row-init c =
    let a = c.args in
    (omega arith, record { bytes = _; shown = text-start (take a.n (drop a.at a.s.now)); puts = puts_none _ _ c.requires.1; within = omega arith })

pub overflow_add-at : goal.overflow_add-at
overflow_add-at c = search rules

pub overflow_sub-n : goal.overflow_sub-n
overflow_sub-n c = c.loop-row.invariant.0

pub text_run-run-requires : goal.text_run-run-requires
text_run-run-requires c = omega (arith, c.loop-row.invariant.0)

pub overflow_sub-row : goal.overflow_sub-row
overflow_sub-row c = omega (arith, c.loop-row.invariant.1.puts.room, c.loop-row.invariant.1.puts.long)

pub overflow_add-run : goal.overflow_add-run
overflow_add-run c =
    let few : c.text_run-run.result ≤ c.args.n - c.loop-row.k = (let a = c.args in
    run-most is_itself (drop (a.at + c.loop-row.k) a.s.now) (a.n - c.loop-row.k) _ c.text_run-run.ensures) in
    record { fits = omega (arith, few) }

pub shape_of-row-then-row-e : goal.shape_of-row-then-row-e
shape_of-row-then-row-e c = c.loop-row.invariant.1.puts.long

pub returns-then-row-e : goal.returns-then-row-e
returns-then-row-e c = puts-before c.loop-row.invariant.1.puts

pub overflow_add-at-in-loop-row : goal.overflow_add-at-in-loop-row
overflow_add-at-in-loop-row c = search rules

pub copy_wide-e-requires : goal.copy_wide-e-requires
copy_wide-e-requires c =
    let few : c.text_run-run.result ≤ c.args.n - c.loop-row.k = (let a = c.args in
    run-most is_itself (drop (a.at + c.loop-row.k) a.s.now) (a.n - c.loop-row.k) _ c.text_run-run.ensures) in
    (omega (arith, few, c.loop-row.invariant.0), omega (arith, c.if-row-e.false))

pub overflow_add-k : goal.overflow_add-k
overflow_add-k c =
    let after_run : let a = c.args in let copied = c.copy_wide-e in TextPut (take a.n (drop a.at a.s.now)) a.row.now a.o copied.new.row copied.result (c.loop-row.k + c.text_run-run.result) =
    (let a = c.args in
    let found = c.text_run-run in
    put-run a.s.now a.at a.n (omega arith) found.result found.ensures c.copy_wide-e.ensures c.loop-row.invariant.1) in
    let within-run : c.loop-row.k + c.text_run-run.result ≤ c.args.n = (let a = c.args in
    omega (arith, after_run.within, part-long a.s.now a.at a.n (omega arith))) in
    record { fits = omega (arith, within-run) }

pub overflow_add-result : goal.overflow_add-result
overflow_add-result c = search rules

pub shape_of-row-then-k-n : goal.shape_of-row-then-k-n
shape_of-row-then-k-n c =
    let after_run : let a = c.args in let copied = c.copy_wide-e in TextPut (take a.n (drop a.at a.s.now)) a.row.now a.o copied.new.row copied.result (c.loop-row.k + c.text_run-run.result) =
    (let a = c.args in
    let found = c.text_run-run in
    put-run a.s.now a.at a.n (omega arith) found.result found.ensures c.copy_wide-e.ensures c.loop-row.invariant.1) in
    after_run.puts.long

pub returns-then-k-n : goal.returns-then-k-n
returns-then-k-n c =
    let after_run : let a = c.args in let copied = c.copy_wide-e in TextPut (take a.n (drop a.at a.s.now)) a.row.now a.o copied.new.row copied.result (c.loop-row.k + c.text_run-run.result) =
    (let a = c.args in
    let found = c.text_run-run in
    put-run a.s.now a.at a.n (omega arith) found.result found.ensures c.copy_wide-e.ensures c.loop-row.invariant.1) in
    let a = c.args in
    moved_all a.s.now a.at a.n (omega arith) after_run c.if-k-n.true

pub overflow_add-b : goal.overflow_add-b
overflow_add-b c =
    let after_run : let a = c.args in let copied = c.copy_wide-e in TextPut (take a.n (drop a.at a.s.now)) a.row.now a.o copied.new.row copied.result (c.loop-row.k + c.text_run-run.result) =
    (let a = c.args in
    let found = c.text_run-run in
    put-run a.s.now a.at a.n (omega arith) found.result found.ensures c.copy_wide-e.ensures c.loop-row.invariant.1) in
    let within-run : c.loop-row.k + c.text_run-run.result ≤ c.args.n = (let a = c.args in
    omega (arith, after_run.within, part-long a.s.now a.at a.n (omega arith))) in
    record { fits = omega (arith, within-run) }

pub bounds-s-at : goal.bounds-s-at
bounds-s-at c =
    let after_run : let a = c.args in let copied = c.copy_wide-e in TextPut (take a.n (drop a.at a.s.now)) a.row.now a.o copied.new.row copied.result (c.loop-row.k + c.text_run-run.result) =
    (let a = c.args in
    let found = c.text_run-run in
    put-run a.s.now a.at a.n (omega arith) found.result found.ensures c.copy_wide-e.ensures c.loop-row.invariant.1) in
    let within-run : c.loop-row.k + c.text_run-run.result ≤ c.args.n = (let a = c.args in
    omega (arith, after_run.within, part-long a.s.now a.at a.n (omega arith))) in
    omega (arith, within-run)

pub overflow_add-result-then-b-eq0 : goal.overflow_add-result-then-b-eq0
overflow_add-result-then-b-eq0 c = search rules

pub shape_of-row-then-b-eq0 : goal.shape_of-row-then-b-eq0
shape_of-row-then-b-eq0 c =
    let after_run : let a = c.args in let copied = c.copy_wide-e in TextPut (take a.n (drop a.at a.s.now)) a.row.now a.o copied.new.row copied.result (c.loop-row.k + c.text_run-run.result) =
    (let a = c.args in
    let found = c.text_run-run in
    put-run a.s.now a.at a.n (omega arith) found.result found.ensures c.copy_wide-e.ensures c.loop-row.invariant.1) in
    after_run.puts.long

pub returns-then-b-eq0 : goal.returns-then-b-eq0
returns-then-b-eq0 c =
    let after_run : let a = c.args in let copied = c.copy_wide-e in TextPut (take a.n (drop a.at a.s.now)) a.row.now a.o copied.new.row copied.result (c.loop-row.k + c.text_run-run.result) =
    (let a = c.args in
    let found = c.text_run-run in
    put-run a.s.now a.at a.n (omega arith) found.result found.ensures c.copy_wide-e.ensures c.loop-row.invariant.1) in
    let within-run : c.loop-row.k + c.text_run-run.result ≤ c.args.n = (let a = c.args in
    omega (arith, after_run.within, part-long a.s.now a.at a.n (omega arith))) in
    let before-end : c.loop-row.k + c.text_run-run.result < c.args.n = omega (arith, within-run, c.if-k-n.false) in
    let a = c.args in
    moved-nul a.s.now a.at a.n (omega arith) after_run before-end c.if-b-eq0.true

pub put_reference-next-requires : goal.put_reference-next-requires
put_reference-next-requires c =
    let room-left : c.copy_wide-e.result + 8 ≤ length c.copy_wide-e.new.row = (let a = c.args in
    let p = c.copy_wide-e.ensures in
    let k = c.loop-row.k in
    omega (arith, p.next-is, p.long, length-take c.text_run-run.result (drop (a.at + k) a.s.now), c.if-row-e.false)) in
    room-left

pub shape_of-row-then-next-e : goal.shape_of-row-then-next-e
shape_of-row-then-next-e c =
    let after_run : let a = c.args in let copied = c.copy_wide-e in TextPut (take a.n (drop a.at a.s.now)) a.row.now a.o copied.new.row copied.result (c.loop-row.k + c.text_run-run.result) =
    (let a = c.args in
    let found = c.text_run-run in
    put-run a.s.now a.at a.n (omega arith) found.result found.ensures c.copy_wide-e.ensures c.loop-row.invariant.1) in
    c.put_reference-next.ensures.long ∙ after_run.puts.long

pub returns-then-next-e : goal.returns-then-next-e
returns-then-next-e c =
    let after_run : let a = c.args in let copied = c.copy_wide-e in TextPut (take a.n (drop a.at a.s.now)) a.row.now a.o copied.new.row copied.result (c.loop-row.k + c.text_run-run.result) =
    (let a = c.args in
    let found = c.text_run-run in
    put-run a.s.now a.at a.n (omega arith) found.result found.ensures c.copy_wide-e.ensures c.loop-row.invariant.1) in
    puts-before (puts_then after_run.puts c.put_reference-next.ensures)

pub overflow_add-k-in-loop-row : goal.overflow_add-k-in-loop-row
overflow_add-k-in-loop-row c =
    let after_run : let a = c.args in let copied = c.copy_wide-e in TextPut (take a.n (drop a.at a.s.now)) a.row.now a.o copied.new.row copied.result (c.loop-row.k + c.text_run-run.result) =
    (let a = c.args in
    let found = c.text_run-run in
    put-run a.s.now a.at a.n (omega arith) found.result found.ensures c.copy_wide-e.ensures c.loop-row.invariant.1) in
    let within-run : c.loop-row.k + c.text_run-run.result ≤ c.args.n = (let a = c.args in
    omega (arith, after_run.within, part-long a.s.now a.at a.n (omega arith))) in
    let before-end : c.loop-row.k + c.text_run-run.result < c.args.n = omega (arith, within-run, c.if-k-n.false) in
    record { fits = omega (arith, before-end) }

pub loop-row-smaller : goal.loop-row-smaller
loop-row-smaller c =
    let after_run : let a = c.args in let copied = c.copy_wide-e in TextPut (take a.n (drop a.at a.s.now)) a.row.now a.o copied.new.row copied.result (c.loop-row.k + c.text_run-run.result) =
    (let a = c.args in
    let found = c.text_run-run in
    put-run a.s.now a.at a.n (omega arith) found.result found.ensures c.copy_wide-e.ensures c.loop-row.invariant.1) in
    let within-run : c.loop-row.k + c.text_run-run.result ≤ c.args.n = (let a = c.args in
    omega (arith, after_run.within, part-long a.s.now a.at a.n (omega arith))) in
    let before-end : c.loop-row.k + c.text_run-run.result < c.args.n = omega (arith, within-run, c.if-k-n.false) in
    omega (arith, before-end)

pub loop-row-preserved : goal.loop-row-preserved
loop-row-preserved c =
    let after_run : let a = c.args in let copied = c.copy_wide-e in TextPut (take a.n (drop a.at a.s.now)) a.row.now a.o copied.new.row copied.result (c.loop-row.k + c.text_run-run.result) =
    (let a = c.args in
    let found = c.text_run-run in
    put-run a.s.now a.at a.n (omega arith) found.result found.ensures c.copy_wide-e.ensures c.loop-row.invariant.1) in
    let within-run : c.loop-row.k + c.text_run-run.result ≤ c.args.n = (let a = c.args in
    omega (arith, after_run.within, part-long a.s.now a.at a.n (omega arith))) in
    let before-end : c.loop-row.k + c.text_run-run.result < c.args.n = omega (arith, within-run, c.if-k-n.false) in
    let a = c.args in
    let known = c.shared_slice_known-in-loop-row-1 in
    let reached = c.loop-row.k + c.text_run-run.result in (
      omega (arith, before-end),
      put-char a.s.now a.at a.n (omega arith) _ before-end refl (omega (arith, known.given (a.at + reached)))
          c.if-next-e.false c.put_reference-next.ensures after_run,
    )
