-- `eights::copy_wide` meets its contract: before each turn the first k bytes stand in the buffer; the last turn may copy more than are asked for.
use Prim.Native.Nat.{◌+◌, ◌<◌, ◌≤◌, ℕ}
use native.Mathlib.Nat.{add-zero}
use mathlib.Core.List.{append-nil}
use mathlib.Core.Path.{◌∙◌, ◌≡◌, ap, refl, sym}
use lib.ListN.{drop, length, length-drop, take}
use lib.Seq.{length-take-le}
use Rattle.table.specs.All.{AreBytes}
use Rattle.eights.proofs.Fronts.{are-bytes, eight-more, front_less}
use borrow.Author.Rules.{rules}
use native.Mathlib.Omega.{arith}
use Rattle.eights.proofs.copy_wide.Goals as goal

pub loop-k-init : goal.loop-k-init
loop-k-init c = ((omega arith, refl), simp (add-zero, append-nil))

pub overflow_add-o : goal.overflow_add-o
overflow_add-o c = search rules

pub overflow_add-from : goal.overflow_add-from
overflow_add-from c = search rules

pub eight_bytes-requires : goal.eight_bytes-requires
eight_bytes-requires c = search rules

pub put_eight-requires : goal.put_eight-requires
put_eight-requires c = search rules

pub overflow_add-k : goal.overflow_add-k
overflow_add-k c = search rules

pub loop-k-smaller : goal.loop-k-smaller
loop-k-smaller c = search rules

pub loop-k-preserved : goal.loop-k-preserved
loop-k-preserved c =
    let l = c.loop-k in
    let a = c.args in
    let t : l.k < a.n = c.loop-k-test.true in
    let x = c.eight_bytes in
    let w = c.put_eight.ensures in
    let b : AreBytes a.s.now = are-bytes a.s.now (λ i. omega (arith, c.shared_slice_known-1.given i)) in (
      (omega arith, c.put_eight.auto.out ∙ l.invariant.0.1),
      eight-more a.s.now l.row _ (take a.o a.row.now) a.from a.o l.k _ b (omega arith) (omega (arith, l.invariant.0.1)) x.ensures w.now-is l.invariant.1,
    )

pub overflow_add-result : goal.overflow_add-result
overflow_add-result c = search rules

pub shape_of-row : goal.shape_of-row
shape_of-row c = search rules

pub returns : goal.returns
returns c =
    let l = c.loop-k in
    let a = c.args in
    let t : a.n ≤ l.k = c.loop-k-test.false in
    let n : length (take a.n (drop a.from a.s.now)) ≡ a.n = length-take-le a.n (drop a.from a.s.now) (simp length-drop (omega arith)) in
    record {
      front = front_less l.row (take a.o a.row.now) (drop a.from a.s.now) a.o l.k a.n t (length-take-le a.o a.row.now (omega arith)) l.invariant.1;
      next-is = ap (λ (j : ℕ). a.o + j) (sym n);
      room = omega arith;
      long = l.invariant.0.1;
    }
