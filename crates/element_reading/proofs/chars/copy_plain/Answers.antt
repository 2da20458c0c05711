-- `element_reading::chars::copy_plain` meets its contract. The invariant: the text passed over is its own elements, which follow those
-- there were.
use Prim.Native.Nat.{◌+◌, ◌-◌}
use native.Mathlib.Omega.{arith}
use mathlib.Core.Bool.{true}
use mathlib.Core.List.{append-nil}
use mathlib.Core.Path.{◌∙◌, ◌≡◌, refl, sym}
use lib.ListN.{drop, get_or, length-set, take}
use mir.Facts.{to_z-of_z}
use mir.Syntax.{w64}
use Rattle.tabledata.proofs.Characters.{plain-is}
use Rattle.tabledata.specs.Clauses.{is_plain}
use Rattle.character_reading.proofs.characters.Laws.{take_more}
use Rattle.element_reading.proofs.Passing.{passed_none, passed-plain, passed_then}
use Rattle.element_reading.proofs.chars.Laws.{stored-char, text-more, text-none}
use Rattle.element_reading.proofs.chars.copy_plain.Goals as goal

pub loop-i-init : goal.loop-i-init
loop-i-init c =
    let e : c.args.from - c.args.from ≡ 0 = omega arith in let n : c.args.count + 0 ≡ c.args.count = omega arith in
    (omega arith, record { passed = λ source. rw e passed_none; text = rw e text-none; stored = λ es p. rw (e, n, append-nil es) p; low = omega arith; high = c.requires; long = refl })

pub shape_of-scratch-then-scratch-k : goal.shape_of-scratch-then-scratch-k
shape_of-scratch-then-scratch-k c = c.loop-i.invariant.1.long

pub returns-then-scratch-k : goal.returns-then-scratch-k
returns-then-scratch-k c = c.loop-i.invariant.1

pub overflow_cast-c : goal.overflow_cast-c
overflow_cast-c c = omega (arith, c.shared_slice_known-in-loop-i-1.given c.loop-i.i)

pub shape_of-scratch-then-not-is_plain : goal.shape_of-scratch-then-not-is_plain
shape_of-scratch-then-not-is_plain c = c.loop-i.invariant.1.long

pub returns-then-not-is_plain : goal.returns-then-not-is_plain
returns-then-not-is_plain c = c.loop-i.invariant.1

pub loop-i-preserved : goal.loop-i-preserved
loop-i-preserved c =
    let is-plain : is_plain (get_or c.args.s.now c.loop-i.i 0) ≡ true = sym c.is_plain.ensures ∙ c.if-not-is_plain.false in
    let s = c.args.s.now in let from = c.args.from in let i = c.loop-i.i in let p = c.loop-i.invariant in
    let more = take_more s from i p.1.low c.loop-i-test.true in
    let n : c.args.count + (i + 1 - from) ≡ c.loop-i.k + 1 = omega (arith, p.0, p.1.low) in (
      sym n,
      record {
        passed = λ source. rw more (passed_then (p.1.passed source) (passed-plain source s i c.loop-i-test.true is-plain));
        text = rw more (text-more (take (i - from) (drop from s)) (get_or s i 0) p.1.text (plain-is (get_or s i 0) is-plain).1);
        stored = λ es q.
            rw (n, more, to_z-of_z {w = w64} (record { sfits = c.as_element.type_inv }), c.as_element.ensures)
            (stored-char es (take (i - from) (drop from s)) (get_or s i 0) c.loop-i.k c.loop-i.scratch (rw p.0 (p.1.stored es q)));
        low = omega (arith, p.1.low);
        high = omega arith;
        long = simp length-set p.1.long;
      },
    )

pub shape_of-scratch : goal.shape_of-scratch
shape_of-scratch c = c.loop-i.invariant.1.long

pub returns : goal.returns
returns c = c.loop-i.invariant.1
