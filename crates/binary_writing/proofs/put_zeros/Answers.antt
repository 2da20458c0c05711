-- `binary_writing::put_zeros` meets its contract: what is filled is a run of zeros.
use Prim.Native.Nat.{◌+◌, ◌-◌, ◌≤◌, ℕ}
use Rattle.table.proofs.Wrote.{wrote_as, wrote-part}
use lib.ListN.{drop, length, length-drop, length-replicate, replicate, take}
use lib.Seq.{length-take-le}
use mathlib.Core.Path.{◌∙◌, ◌≡◌, ap}
use native.Mathlib.Omega.{arith}
use Rattle.binary_writing.proofs.put_zeros.Goals as goal

pub returns : goal.returns
returns c =
    let a = c.args in
    let n : (a.at + a.n) - a.at ≡ a.n = omega arith in
    let room : a.n ≤ length (drop a.at a.out.now) = omega (arith, length-drop a.at a.out.now) in
    let long : length (take ((a.at + a.n) - a.at) (drop a.at a.out.now)) ≡ a.n = ap (λ (m : ℕ). length (take m (drop a.at a.out.now))) n ∙ length-take-le a.n (drop a.at a.out.now) room in
    let filled : c.fill.new.self ≡ replicate a.n 0 = c.fill.ensures.after (λ y e. e) ∙ ap (λ (m : ℕ). replicate m 0) long in
    wrote_as filled (wrote-part a.out.now c.fill.new.self a.at (a.at + a.n) (omega (arith, ap length filled, length-replicate {A = ℕ} a.n 0)) c.requires)
