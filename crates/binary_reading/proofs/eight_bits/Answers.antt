-- `binary::eight_bits` meets its contract. The loop's invariant: the bits that are left, put from here on, make the whole.
use Prim.Native.Nat.{◌+◌, ◌-◌}
use Rattle.binary.proofs.Loops.{bits-more}
use Rattle.number.specs.Number.{to_digits}
use lib.ListN.{length-set}
use mathlib.Core.Path.{◌∙◌, ◌≡◌, refl, sym}
use mir.Facts.{to_z_pos}
use mir.Syntax.{w64}
use native.Mathlib.Omega.{arith}
use Rattle.binary_reading.proofs.eight_bits.Goals as goal

pub loop-k-preserved : goal.loop-k-preserved
loop-k-preserved c =
    let l = c.loop-k in
    let here : c.args.at + (l.k + 1) ≡ c.args.at + l.k + 1 = omega arith in
    let left : 8 - (l.k + 1) ≡ 8 - l.k - 1 = omega arith in
    let high : 7 - l.k ≡ 8 - l.k - 1 = omega arith in
    (simp length-set l.invariant.0, rw (here, left, high) (sym (bits-more c.args.b (8 - l.k) (c.args.at + l.k) l.scratch _ (omega arith) (to_z_pos w64 (omega arith)))) ∙ l.invariant.1)

pub returns : goal.returns
unfolding to_digits
returns c =
    let l = c.loop-k in
    let e : 8 - l.k ≡ 0 = omega arith in
    rw e at l.invariant.1
