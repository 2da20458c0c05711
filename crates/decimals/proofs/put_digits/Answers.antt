-- `decimals::put_digits` meets its contract. The loop stores the last two digits first: what is still to store, with what is there, makes all.
use Prim.Native.Nat.{ℕ}
use native.Mathlib.Omega.{arith}
use mathlib.Core.Path.{◌∙◌, ◌≡◌, ap, sym}
use lib.ListN.{length-set}
use lib.Seq.{sets}
use Rattle.decimals.specs.Clauses.{numerals}
use Rattle.decimals.proofs.Numerals.{numerals-none, numerals-one, numerals-pair}
use Rattle.decimals.proofs.put_digits.Goals as goal

pub bounds-out-at-in-loop-left : goal.bounds-out-at-in-loop-left
bounds-out-at-in-loop-left c = simp length-set (omega arith)

pub loop-left-preserved : goal.loop-left-preserved
loop-left-preserved c =
    let a = c.args in
    let l = c.loop-left in
    ((omega arith, simp length-set l.invariant.0.1), sym (numerals-pair l.left l.v l.out a.at c.loop-left-test.true) ∙ l.invariant.1)

pub shape_of-out-then-left-eq1 : goal.shape_of-out-then-left-eq1
shape_of-out-then-left-eq1 c = simp length-set c.loop-left.invariant.0.1

pub returns-then-left-eq1 : goal.returns-then-left-eq1
returns-then-left-eq1 c =
    let l = c.loop-left in
    sym (numerals-one l.left l.v l.out c.args.at c.if-left-eq1.true) ∙ l.invariant.1

pub returns-else-left-eq1 : goal.returns-else-left-eq1
returns-else-left-eq1 c =
    let a = c.args in
    let l = c.loop-left in
    let none : l.left ≡ 0 = omega arith in
    sym (ap (λ (k : ℕ). sets l.out a.at (numerals k l.v)) none ∙ ap (sets l.out a.at) (numerals-none l.v))
    ∙ l.invariant.1
