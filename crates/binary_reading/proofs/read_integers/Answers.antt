-- `binary::read_integers` meets its contract, once over the width. The loop's invariant: the integers from the k-th on, put from k on, make the whole.
use Prim.Native.Nat.{◌*◌, ◌≤◌, ℕ}
use Rattle.binary_reading.proofs.Cells.{whole-filled}
use Rattle.binary.proofs.Loops.{integers-all, integers-more, integers-start, place-fits}
use Rattle.number.specs.Clauses.{is_signed, size, width_of}
use Rattle.number.specs.Number.{of_digits, of_pattern}
use lib.ListN.{drop, length, length-set, take}
use lib.Seq.{sets}
use mathlib.Core.Path.{◌∙◌, ap, refl, sym}
use mir.Facts.{to_z-of_z}
use mir.Syntax.{w64}
use native.Mathlib.Omega.{arith}
use Rattle.binary_reading.proofs.read_integers.Goals as goal

pub loop-k-init : goal.loop-k-init
loop-k-init c = (omega arith, refl, ap (sets _ 0) (integers-start _ _ _ _))

pub overflow_mul-k : goal.overflow_mul-k
overflow_mul-k c =
    let a = c.args in
    let w = c.integer_bytes-w.result in
    let h : a.n * w ≤ length a.part.now = rw c.integer_bytes-w.ensures.0 c.requires.0 in
    omega (arith, place-fits c.loop-k.k a.n w _ c.loop-k-test.true h)

pub read_integer-requires : goal.read_integer-requires
read_integer-requires c =
    let a = c.args in
    rw c.integer_bytes-w.ensures.0 (place-fits c.loop-k.k a.n (size a.kind) _ c.loop-k-test.true c.requires.0)

pub bounds-scratch-k : goal.bounds-scratch-k
bounds-scratch-k c = omega arith

pub loop-k-preserved : goal.loop-k-preserved
loop-k-preserved c =
    let a = c.args in
    let l = c.loop-k in
    let e = c.integer_bytes-w.ensures.0 in (
      omega arith,
      simp length-set l.invariant.1,
      sym (integers-more (is_signed a.kind) (size a.kind) a.n l.k a.part.now l.scratch _ c.loop-k-test.true
          (to_z-of_z {w = w64} (record { sfits = c.read_integer.type_inv }) ∙ c.read_integer.ensures
          ∙ ap (λ (w : ℕ). of_pattern (is_signed a.kind) (size a.kind) (of_digits 256 0 (take (size a.kind) (drop (l.k * w) a.part.now)))) e)) ∙ l.invariant.2,
    )

pub shape_of-scratch : goal.shape_of-scratch
shape_of-scratch c = c.loop-k.invariant.1

pub returns : goal.returns
returns c =
    let a = c.args in
    let l = c.loop-k in
    whole-filled (is_signed a.kind) (width_of a.kind) a.n a.part.now _ l.scratch c.requires.1 l.invariant.1
    (rw (integers-all (is_signed a.kind) (size a.kind) a.n l.k (drop (l.k * size a.kind) a.part.now) c.loop-k-test.false) at l.invariant.2)
