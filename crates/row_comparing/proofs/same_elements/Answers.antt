-- row_comparing::same_elements: whether the elements are the same is whether those from i on are (same_turn).
use Prim.Native.Nat.{◌+◌, ◌≤◌, ℕ}
use mathlib.Core.Bool.{◌&&◌}
use mathlib.Core.Path.{◌∙◌, ◌≡◌, ap, sym}
use lib.Dec.{eqb}
use lib.IntN.{pos}
use lib.ListN.{drop, get_or, length, take}
use lib.Seq.{length-take-le}
use Rattle.compare.specs.Compare.{same_elements}
use Rattle.row_comparing.proofs.Pairs.{none_left, other-count, same_turn}
use Rattle.table.proofs.Nulls.{eq-bits}
use Rattle.table.proofs.Places.{done}
use Rattle.table.specs.Cell.{same_integer}
use borrow.Author.Rules.{sfits_of}
use borrow.Author.Tests.{eq-eqb, ne_eqb}
use mir.Facts.{to_z-of_z}
use mir.Syntax.{w64}
use mir.Val.{of_z}
use native.Mathlib.Omega.{arith}
use Rattle.row_comparing.proofs.same_elements.Goals as goal

pub returns-then-n-m : goal.returns-then-n-m
returns-then-n-m c =
    sym (other-count c.args.n c.args.m c.args.a.now c.args.b.now c.requires.0 c.requires.1 c.if-n-m.true)

pub loop-i-init : goal.loop-i-init
loop-i-init c =
    ap (λ (k : ℕ). same_elements (take c.args.n c.args.a.now) (take k c.args.b.now)) (sym c.if-n-m.false)

pub returns-then-a-i : goal.returns-then-a-i
returns-then-a-i c =
    let turn : same_elements (take c.args.n c.args.a.now) (take c.args.m c.args.b.now) ≡
    (same_integer (get_or c.args.a.now c.loop-i.i (pos 0)) (get_or c.args.b.now c.loop-i.i (pos 0)) && same_elements (drop (c.loop-i.i + 1) (take c.args.n c.args.a.now))
    (drop (c.loop-i.i + 1) (take c.args.n c.args.b.now))) = (c.loop-i.invariant
    ∙ same_turn c.args.n c.args.a.now c.args.b.now c.loop-i.i (pos 0) c.loop-i-test.true c.requires.0
    (omega (arith, c.requires.1, c.if-n-m.false))) in
    let by_bits : eqb (of_z w64 (get_or c.args.a.now c.loop-i.i (pos 0))) (of_z w64 (get_or c.args.b.now c.loop-i.i (pos 0))) ≡ same_integer (get_or c.args.a.now c.loop-i.i (pos 0))
    (get_or c.args.b.now c.loop-i.i (pos 0)) = eq-bits _ _ (to_z-of_z {w = w64} (sfits_of c.t10-1.given)) (to_z-of_z {w = w64} (sfits_of c.t13-1.given)) in
    sym (turn ∙ rw (sym by_bits ∙ ne_eqb _ _ c.if-a-i.true))

pub loop-i-preserved : goal.loop-i-preserved
loop-i-preserved c =
    let turn : same_elements (take c.args.n c.args.a.now) (take c.args.m c.args.b.now) ≡
    (same_integer (get_or c.args.a.now c.loop-i.i (pos 0)) (get_or c.args.b.now c.loop-i.i (pos 0)) && same_elements (drop (c.loop-i.i + 1) (take c.args.n c.args.a.now))
    (drop (c.loop-i.i + 1) (take c.args.n c.args.b.now))) = (c.loop-i.invariant
    ∙ same_turn c.args.n c.args.a.now c.args.b.now c.loop-i.i (pos 0) c.loop-i-test.true c.requires.0
    (omega (arith, c.requires.1, c.if-n-m.false))) in
    let by_bits : eqb (of_z w64 (get_or c.args.a.now c.loop-i.i (pos 0))) (of_z w64 (get_or c.args.b.now c.loop-i.i (pos 0))) ≡ same_integer (get_or c.args.a.now c.loop-i.i (pos 0))
    (get_or c.args.b.now c.loop-i.i (pos 0)) = eq-bits _ _ (to_z-of_z {w = w64} (sfits_of c.t10-1.given)) (to_z-of_z {w = w64} (sfits_of c.t13-1.given)) in
    turn ∙ rw (sym by_bits ∙ eq-eqb _ _ c.if-a-i.false)

pub returns : goal.returns
returns c =
    let n = c.args.n in
    let x = c.args.a.now in
    let y = c.args.b.now in
    let h : n ≤ length y = omega (arith, c.requires.1, c.if-n-m.false) in
    let none-a = done (take n x) c.loop-i.i (omega (arith, c.loop-i-test.false, length-take-le n x c.requires.0)) in
    let none-b = done (take n y) c.loop-i.i (omega (arith, c.loop-i-test.false, length-take-le n y h)) in
    sym (c.loop-i.invariant ∙ none_left n x y c.loop-i.i none-a none-b)
