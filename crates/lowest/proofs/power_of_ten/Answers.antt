-- `lowest::power_of_ten` meets its contract: each power is computed, and what is none of the first seven places is the last.
use Prim.Native.Nat.{◌^◌, ◌≤◌, ℕ}
use native.Mathlib.Omega.{arith}
use mathlib.Core.Path.{◌≡◌, ap, sym}
use Rattle.lowest.proofs.power_of_ten.Goals as goal

power : {n : ℕ} (k : ℕ) → n ≡ k → 10 ^ k ≡ 10 ^ n
power k e = sym (ap (λ (n : ℕ). 10 ^ n) e)

-- the place that is left, in two steps
from-four : (n : ℕ) → (n ≡ 0 → ⊥) → (n ≡ 1 → ⊥) → (n ≡ 2 → ⊥) → (n ≡ 3 → ⊥) → 4 ≤ n
from-four n a b c d = omega arith

at-seven : (n : ℕ) → 4 ≤ n → n ≤ 7 → (n ≡ 4 → ⊥) → (n ≡ 5 → ⊥) → (n ≡ 6 → ⊥) → n ≡ 7
at-seven n l h e f g = omega arith

pub returns-in_default : goal.returns-in_default
returns-in_default c =
    let n = c.args.n in
    let others = c.in_default.in_default-own.rest in
    let low = others.0.0.0 in
    power 7 (at-seven n (from-four n low.0.0.0.1 low.0.0.1 low.0.1 low.1) c.requires others.0.0.1 others.0.1 others.1)

pub returns-in-0 : goal.returns-in-0
returns-in-0 c = power 0 c.in-0.is

pub returns-in-1 : goal.returns-in-1
returns-in-1 c = power 1 c.in-1.is

pub returns-in-2 : goal.returns-in-2
returns-in-2 c = power 2 c.in-2.is

pub returns-in-3 : goal.returns-in-3
returns-in-3 c = power 3 c.in-3.is

pub returns-in-4 : goal.returns-in-4
returns-in-4 c = power 4 c.in-4.is

pub returns-in-5 : goal.returns-in-5
returns-in-5 c = power 5 c.in-5.is

pub returns-in-6 : goal.returns-in-6
returns-in-6 c = power 6 c.in-6.is
