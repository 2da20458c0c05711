-- `binary::read_characters` meets its contract. The loop's invariant is that of `read_truths`, over the bytes before the first NUL.
use Prim.Native.Nat.{◌<◌, ◌^◌}
use Rattle.binary.proofs.Loops.{at-nul, letter-bad, letter-good, next-letter, no-letter, onto-none, read-end, read_more, read-refused}
use Rattle.binary.specs.Binary.{before_nul, element}
use Rattle.table.specs.Result.{good}
use Rattle.table.specs.Shape.{Text}
use borrow.Author.Rules.{sfits_of}
use lib.ListN.{get_or, length, length-set}
use mathlib.Core.Path.{◌∙◌, ◌≡◌, ap, refl, sym}
use mir.Facts.{to_z_pos}
use mir.Syntax.{w64}
use native.Mathlib.Nat.{le_refl}
use native.Mathlib.Omega.{arith}
use Rattle.binary_reading.proofs.read_characters.Goals as goal

pub loop-k-init : goal.loop-k-init
loop-k-init c = (omega arith, refl, onto-none _)

pub shape_of-scratch-then-b-eq0 : goal.shape_of-scratch-then-b-eq0
shape_of-scratch-then-b-eq0 c = c.loop-k.invariant.1

pub returns-then-b-eq0 : goal.returns-then-b-eq0
returns-then-b-eq0 c =
    let l = c.loop-k in
    let a = c.args in
    record {
      found = l.invariant.2 ∙ read-end (element Text) before_nul a.part.now l.scratch l.k (at-nul _ _ c.loop-k-test.true c.if-b-eq0.true);
      within = l.invariant.0;
      long = l.invariant.1;
    }

pub shape_of-scratch-then-b-ge128 : goal.shape_of-scratch-then-b-ge128
shape_of-scratch-then-b-ge128 c = c.loop-k.invariant.1

pub returns-then-b-ge128 : goal.returns-then-b-ge128
returns-then-b-ge128 c =
    let l = c.loop-k in
    let a = c.args in
    record {
      found = l.invariant.2 ∙ read-refused (element Text) before_nul a.part.now l.scratch l.k
          (next-letter _ _ c.loop-k-test.true c.if-b-eq0.false) 11 (letter-bad _ c.if-b-ge128.true);
      within = tt;
      long = l.invariant.1;
    }

pub overflow_cast-scratch : goal.overflow_cast-scratch
overflow_cast-scratch c = sfits_of (omega (arith, c.if-b-ge128.false))

pub bounds-scratch-k : goal.bounds-scratch-k
bounds-scratch-k c = omega arith

pub loop-k-preserved : goal.loop-k-preserved
loop-k-preserved c =
    let l = c.loop-k in
    let a = c.args in
    let b = get_or a.part.now l.k 0 in
    let small : b < 2 ^ 63 = omega (arith, c.if-b-ge128.false) in (
      omega arith,
      simp length-set l.invariant.1,
      l.invariant.2 ∙ read_more (element Text) before_nul a.part.now l.scratch l.k (next-letter _ _ c.loop-k-test.true c.if-b-eq0.false) _
          (omega arith) (letter-good b c.if-b-ge128.false ∙ ap good (sym (to_z_pos w64 small))),
    )

pub shape_of-scratch : goal.shape_of-scratch
shape_of-scratch c = c.loop-k.invariant.1

pub returns : goal.returns
returns c =
    let l = c.loop-k in
    let a = c.args in
    let end : length a.part.now ≡ l.k = omega arith in
    record {
      found = l.invariant.2 ∙ read-end (element Text) before_nul a.part.now l.scratch l.k (no-letter a.part.now l.k (omega arith)) ∙ rw end;
      within = le_refl _;
      long = l.invariant.1;
    }
