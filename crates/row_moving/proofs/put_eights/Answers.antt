-- `row_moving::put_eights` meets its contract: before each turn the first k bytes are put, and the last eight go over those of them that are among these.
use Prim.Native.Nat.{◌+◌, ◌-◌, ◌<◌, ◌≤◌, ℕ}
use native.Mathlib.Omega.{arith}
use mathlib.Core.Path.{◌∙◌, ◌≡◌, ap, refl}
use lib.ListN.{length, take}
use lib.Seq.{length-take-le, sets}
use Rattle.eights.proofs.Fronts.{are-bytes, eight-back}
use Rattle.number.proofs.Laws.{length_to}
use Rattle.row_moving.proofs.Copying.{sets_last, sets_more}
use Rattle.table.specs.All.{AreBytes}
use Rattle.row_moving.proofs.put_eights.Goals as goal

pub loop-k-init : goal.loop-k-init
loop-k-init c = ((omega arith, refl), refl)

pub loop-k-preserved : goal.loop-k-preserved
loop-k-preserved c =
    let l = c.loop-k in
    let a = c.args in
    let row = a.row.now in
    let t : l.k < a.size - 8 = c.loop-k-test.true in
    let x = c.eight_bytes in
    let w = c.put_eight.ensures in
    let b : AreBytes row = are-bytes row (λ i. omega (arith, c.shared_slice_known-1.given i)) in (
      (omega arith, c.put_eight.auto.out ∙ l.invariant.0.1),
      w.now-is
          ∙ ap (sets l.out (a.at + l.k)) (eight-back row l.k _ b (omega arith) x.ensures)
          ∙ sets_more row a.out.now l.out a.at l.k 8 (omega arith) l.invariant.1,
    )

pub put_eight-requires-2 : goal.put_eight-requires-2
put_eight-requires-2 c = omega (arith, c.loop-k.invariant.0.1)

pub shape_of-out : goal.shape_of-out
shape_of-out c = c.put_eight-2.auto.out ∙ c.loop-k.invariant.0.1

pub returns : goal.returns
returns c =
    let l = c.loop-k in
    let a = c.args in
    let row = a.row.now in
    let t : a.size - 8 ≤ l.k = c.loop-k-test.false in
    let x = c.eight_bytes-2 in
    let w = c.put_eight-2.ensures in
    let b : AreBytes row = are-bytes row (λ i. omega (arith, c.shared_slice_known-1.given i)) in
    let room : a.size - 8 + 8 ≤ length row = omega arith in
    let all : a.size - 8 + 8 ≡ a.size = omega arith in
    record {
      now-is =
          w.now-is
          ∙ ap (sets l.out (a.at + (a.size - 8))) (eight-back row (a.size - 8) _ b room x.ensures)
          ∙ sets_last row a.out.now l.out a.at l.k (a.size - 8) 8 t (omega arith) room l.invariant.1
          ∙ ap (λ (j : ℕ). sets a.out.now a.at (take j row)) all;
      next-is = omega (arith, w.next-is, length_to 256 8 x.result, length-take-le a.size row (omega arith));
    }
