-- declaring::spans::span_end: a span of bytes: as many are still to come from `i` on as from the start, but for those that were passed.
use Rattle.declaring.proofs.spans.Scan.{span-end, span_more, span-stop}
use Rattle.declaring.specs.Readers.{in_class}
use borrow.Author.Rules.{rules}
use mathlib.Core.Path.{◌∙◌, refl, sym}
use native.Mathlib.Omega.{arith}
use Rattle.declaring.proofs.spans.span_end.Goals as goal

pub loop-i-init : goal.loop-i-init
loop-i-init c = (search rules, search rules, refl)

pub loop-i-preserved : goal.loop-i-preserved
loop-i-preserved c =
    let more = span_more (in_class c.args.class) c.args.s.now c.loop-i.i c.loop-i-test.true (sym
    c.belongs.ensures ∙ c.if-not-belongs.false) in
    (search rules, search rules, c.loop-i.invariant.2 ∙ omega (arith, more))

pub returns-then-not-belongs : goal.returns-then-not-belongs
returns-then-not-belongs c =
    let stop = span-stop (in_class c.args.class) c.args.s.now c.loop-i.i c.loop-i-test.true (sym
    c.belongs.ensures ∙ c.if-not-belongs.true) in
    record { count = omega (arith, stop); onward = search rules; inside = search rules }

pub returns : goal.returns
returns c =
    let stop = span-end (in_class c.args.class) c.args.s.now c.loop-i.i c.loop-i-test.false in
    record { count = omega (arith, stop); onward = search rules; inside = search rules }
