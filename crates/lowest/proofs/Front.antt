-- The first bytes of a number whose first byte is lowest: what is left of it by a power of 256. Moved up by the other bytes, and those above cut off,
-- they stand behind zeros.
use Prim.Native.Nat.{◌%◌, ◌*◌, ◌+◌, ◌-◌, ◌/◌, ◌<◌, ◌^◌, ◌≤◌, suc, zero, ℕ}
use native.Mathlib.Nat.{add-zero, mod-one, mul_assoc, mul-mod_left, mul-one, one-le-pow, pow-suc, zero-mod}
use native.Mathlib.Omega.{arith}
use mathlib.Core.List.{List, [], ◌++◌, ◌∷◌}
use mathlib.Core.Path.{◌∙◌, ◌≡◌, ap, ap₂, sym}
use lib.Arith.{mod-mul}
use lib.Dec.{lit<}
use lib.ListN.{replicate, take}
use lib.Pow.{mod-mod-pow, mod-pow-add, pow-add, shl-shr}
use Rattle.eights.proofs.Lanes.{pow-bytes}
use Rattle.eights.specs.Lowest.{of_lowest}
use Rattle.lowest.specs.Lowest.{FrontIs}
use Rattle.table.specs.All.{AreBytes}

pub first-bytes : (n : ℕ) (p : List ℕ) → AreBytes p → of_lowest p % 256 ^ n ≡ of_lowest (take n p)
unfolding of_lowest
first-bytes zero p a = mod-one (of_lowest p)
first-bytes (suc n) [] a = zero-mod (256 ^ suc n)
first-bytes (suc n) (b ∷ p) (b<, a) =
    let byte : b < 256 = b< in
    let rest : (b + 256 * of_lowest p) / 256 ≡ of_lowest p = omega arith in
    let low : (b + 256 * of_lowest p) % 256 ≡ b = omega arith in
    ap (λ (m : ℕ). (b + 256 * of_lowest p) % m) (pow-suc 256 n)
    ∙ mod-mul (b + 256 * of_lowest p) (one-le-pow n 256 (lit< tt)) (lit< tt)
    ∙ ap₂ (λ (u v : ℕ). u % 256 ^ n * 256 + v) rest low
    ∙ ap (λ (u : ℕ). u * 256 + b) (first-bytes n p a)
    ∙ omega arith

pub behind-zeros : (k : ℕ) (q : List ℕ) → of_lowest (replicate k 0 ++ q) ≡ of_lowest q * 256 ^ k
unfolding of_lowest
behind-zeros zero q = sym (mul-one (of_lowest q))
behind-zeros (suc k) q =
    let more : 0 + 256 * (of_lowest q * 256 ^ k) ≡ of_lowest q * 256 ^ k * 256 = omega arith in
    ap (λ (u : ℕ). 0 + 256 * u) (behind-zeros k q)
    ∙ more
    ∙ mul_assoc (of_lowest q) (256 ^ k) 256
    ∙ ap (λ (u : ℕ). of_lowest q * u) (sym (pow-suc 256 k))

-- what a shift leaves: the lowest bits, as many as there is room for
shifted : (y j k : ℕ) → y * 2 ^ k % 2 ^ (j + k) ≡ y % 2 ^ j * 2 ^ k
shifted y j k =
    mod-pow-add (y * 2 ^ k) j k
    ∙ ap₂ (λ (u v : ℕ). u % 2 ^ j * 2 ^ k + v) (shl-shr y k) (mul-mod_left y (2 ^ k))
    ∙ add-zero (y % 2 ^ j * 2 ^ k)

-- two shifts: by one byte, and by the others
two-shifts : (x n : ℕ) → n ≤ 7 → x * 2 ^ 8 % 2 ^ 64 * 2 ^ (56 - 8 * n) % 2 ^ 64 ≡ x % 256 ^ n * 256 ^ (8 - n)
two-shifts x n h =
    let k : ℕ = 56 - 8 * n in
    let kept : ℕ = 8 * n + 8 in
    let up : 64 ≡ kept + k = omega arith in
    let down : 64 ≡ k + kept = omega arith in
    let all : 8 + k ≡ 8 * (8 - n) = omega arith in
    ap₂ (λ (v w : ℕ). x * 2 ^ 8 % 2 ^ v * 2 ^ k % 2 ^ w) down up
    ∙ shifted (x * 2 ^ 8 % 2 ^ (k + kept)) kept k
    ∙ ap (λ (u : ℕ). u * 2 ^ k) (mod-mod-pow (x * 2 ^ 8) k kept ∙ shifted x (8 * n) 8)
    ∙ mul_assoc (x % 2 ^ (8 * n)) (2 ^ 8) (2 ^ k)
    ∙ ap₂ (λ (u v : ℕ). x % u * v) (pow-bytes n) (sym (pow-add 2 8 k) ∙ ap (λ (i : ℕ). 2 ^ i) all ∙ pow-bytes (8 - n))

pub front-is : (x n : ℕ) → n ≤ 7 → FrontIs x n (x * 2 ^ 8 % 2 ^ 64 * 2 ^ (56 - 8 * n) % 2 ^ 64)
front-is x n h = record {
  front = λ p l a e.
      two-shifts x n h
      ∙ ap (λ (u : ℕ). u * 256 ^ (8 - n)) (ap (λ (y : ℕ). y % 256 ^ n) e ∙ first-bytes n p a)
      ∙ sym (behind-zeros (8 - n) (take n p));
}
