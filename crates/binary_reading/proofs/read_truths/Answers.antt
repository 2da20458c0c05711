-- `binary::read_truths` meets its contract. The loop's invariant: the elements of the whole part are those in the scratch, and behind
-- them what the bytes from k on give.
use Prim.Native.Nat.{◌<◌, ℕ}
use Rattle.binary.proofs.Loops.{next-byte, no_byte, onto-none, read-end, read_more, read-refused}
use Rattle.binary.specs.Binary.{element}
use Rattle.table.specs.Result.{good}
use Rattle.table.specs.Shape.{Truths}
use borrow.Author.Rules.{sfits_of}
use borrow.Author.Tests.{le-ltb, lt-ltb}
use lib.ListN.{length, length-set}
use mathlib.Core.List.{List}
use mathlib.Core.Path.{◌∙◌, ◌≡◌, ap, refl, sym}
use mir.Facts.{to_z_pos}
use mir.Syntax.{w64}
use native.Mathlib.Nat.{le_refl}
use native.Mathlib.Omega.{arith}
use Rattle.binary_reading.proofs.read_truths.Goals as goal

pub loop-k-init : goal.loop-k-init
loop-k-init c = (omega arith, refl, onto-none _)

pub shape_of-scratch-then-t-ge3 : goal.shape_of-scratch-then-t-ge3
shape_of-scratch-then-t-ge3 c = c.loop-k.invariant.1

pub returns-then-t-ge3 : goal.returns-then-t-ge3
returns-then-t-ge3 c =
    let l = c.loop-k in
    let a = c.args in
    record {
      found = l.invariant.2 ∙ read-refused (element Truths) (λ (s : List ℕ). s) a.part.now l.scratch l.k (next-byte _ _ c.loop-k-test.true) 11
          (c.truth_of-t.ensures ∙ rw (le-ltb _ 3 c.if-t-ge3.true));
      within = tt;
      long = l.invariant.1;
    }

pub overflow_cast-scratch : goal.overflow_cast-scratch
overflow_cast-scratch c = sfits_of (omega arith)

pub bounds-scratch-k : goal.bounds-scratch-k
bounds-scratch-k c = omega arith

pub loop-k-preserved : goal.loop-k-preserved
loop-k-preserved c =
    let l = c.loop-k in
    let a = c.args in
    let small : c.truth_of-t.result < 3 = omega arith in (
      omega arith,
      simp length-set l.invariant.1,
      l.invariant.2 ∙ read_more (element Truths) (λ (s : List ℕ). s) a.part.now l.scratch l.k (next-byte _ _ c.loop-k-test.true) _ (omega arith)
          (c.truth_of-t.ensures ∙ rw (lt-ltb _ 3 small) (ap good (sym (to_z_pos w64 (omega arith))))),
    )

pub shape_of-scratch : goal.shape_of-scratch
shape_of-scratch c = c.loop-k.invariant.1

pub returns : goal.returns
returns c =
    let l = c.loop-k in
    let a = c.args in
    let end : length a.part.now ≡ l.k = omega arith in
    record {
      found = l.invariant.2 ∙ read-end (element Truths) (λ (s : List ℕ). s) a.part.now l.scratch l.k (no_byte a.part.now l.k (omega arith)) ∙ rw end;
      within = le_refl _;
      long = l.invariant.1;
    }
