-- `binary::read_bits` meets its contract. The loop's invariant: the bits of the bytes from k on, put from 8 * k on, make the whole. Then
-- the padding is the low bits of the last byte.
use Prim.Native.Nat.{◌*◌, ◌+◌, ◌-◌}
use Rattle.binary.proofs.Digits.{bits-all, bits-next, content-bits, no-padding, spare-test, unit-some}
use Rattle.binary.specs.Binary.{bits_of}
use Rattle.table.specs.Result.{good}
use borrow.Author.Tests.{eq-eqb, ne_eqb}
use lib.IntN.{pos, ℤ}
use lib.ListN.{drop, length}
use lib.Seq.{length-sets, sets}
use mathlib.Core.Bool.{false, true}
use mathlib.Core.List.{List, map}
use mathlib.Core.Path.{◌∙◌, ap, refl, sym}
use native.Mathlib.Nat.{le_refl}
use native.Mathlib.Omega.{arith}
use Rattle.binary_reading.proofs.read_bits.Goals as goal

pub loop-k-init : goal.loop-k-init
loop-k-init c = (omega arith, refl, refl)

pub eight_bits-requires : goal.eight_bits-requires
eight_bits-requires c = omega arith

pub loop-k-preserved : goal.loop-k-preserved
loop-k-preserved c =
    let l = c.loop-k in
    let a = c.args in (
      omega arith,
      ap length c.eight_bits.ensures ∙ simp length-sets l.invariant.1,
      ap (λ (x : List ℤ). sets x (8 * (l.k + 1)) (map pos (bits_of (drop (l.k + 1) a.part.now)))) c.eight_bits.ensures
          ∙ sym (bits-next a.part.now l.scratch l.k c.loop-k-test.true) ∙ l.invariant.2,
    )

pub returns-then-spare-eq0 : goal.returns-then-spare-eq0
returns-then-spare-eq0 c =
    let l = c.loop-k in
    let a = c.args in
    let n = a.n in
    record {
      found = content-bits n a.part.now true (no-padding _ n (omega arith)) ∙ ap good (bits-all a.part.now _ l.scratch n l.k (omega arith) (omega arith) (omega arith) l.invariant.2);
      within = le_refl _;
      long = l.invariant.1;
    }

pub overflow_cast-last : goal.overflow_cast-last
overflow_cast-last c = omega (arith, c.shared_slice_known-2-1.given (c.loop-k.k - 1))

pub nonzero_rem-last : goal.nonzero_rem-last
nonzero_rem-last c = unit-some _ (omega arith)

pub returns-then-last-unit-eq0 : goal.returns-then-last-unit-eq0
returns-then-last-unit-eq0 c =
    let l = c.loop-k in
    let a = c.args in
    let n = a.n in
    record {
      found = content-bits n a.part.now true (spare-test a.part.now n (length a.part.now) (omega arith) (le_refl _) (omega arith) (omega arith) c.if-spare-eq0.false
          ∙ eq-eqb _ 0 c.if-last-unit-eq0.true)
          ∙ ap good (bits-all a.part.now _ l.scratch n l.k (omega arith) (omega arith) (omega arith) l.invariant.2);
      within = le_refl _;
      long = l.invariant.1;
    }

pub returns-else-last-unit-eq0 : goal.returns-else-last-unit-eq0
returns-else-last-unit-eq0 c =
    let l = c.loop-k in
    let a = c.args in
    let n = a.n in
    record {
      found = content-bits n a.part.now false (spare-test a.part.now n (length a.part.now) (omega arith) (le_refl _) (omega arith) (omega arith) c.if-spare-eq0.false
          ∙ ne_eqb _ 0 c.if-last-unit-eq0.false);
      within = tt;
      long = l.invariant.1;
    }
