-- The lowest mark of bytes, the first lowest: below it stand seven zeros of its own, and eight for each byte before it.
use Prim.Native.Nat.{◌%◌, ◌*◌, ◌+◌, ◌/◌, ◌^◌, suc, zero, ℕ}
use native.Mathlib.Nat.{add-zero, mul-one}
use native.Mathlib.Omega.{arith}
use mathlib.Core.Bool.{Bool, cond, false, true}
use mathlib.Core.List.{List, [], ◌∷◌, map}
use mathlib.Core.Path.{◌∙◌, ◌≡◌, ap, ap₂, refl, sym}
use lib.Bits.{shifted_even, shifted_half}
use lib.Count.{trailing_of_zero, count_trailing_zeros, under}
use lib.ListN.{length}
use Rattle.eights.specs.Lowest.{of_lowest}
use Rattle.eights.specs.Marks.{mark, run}

-- a number with j zeros put below it
zeros-below : (j k x : ℕ) → count_trailing_zeros (k + j) (x * 2 ^ j) ≡ count_trailing_zeros k x + j
unfolding count_trailing_zeros
zeros-below zero k x = simp (add-zero, mul-one) refl
zeros-below (suc j) k x =
    let more : k + suc j ≡ suc (k + j) = omega arith in
    ap (λ (n : ℕ). count_trailing_zeros n (x * 2 ^ suc j)) more
    ∙ ap₂ (λ (d n : ℕ). under d (count_trailing_zeros (k + j) n)) (shifted_even x j) (shifted_half x j)
    ∙ omega (arith, zeros-below j k x)

no-zeros : (k x : ℕ) → x % 2 ≡ 1 → count_trailing_zeros (suc k) x ≡ 0
unfolding count_trailing_zeros
no-zeros k x e = ap (λ (d : ℕ). under d (count_trailing_zeros k (x / 2))) e

first-mark : (test : ℕ → Bool) (ds : List ℕ) → count_trailing_zeros (8 * length ds) (of_lowest (map (mark test) ds)) / 8 ≡ run test ds
unfolding of_lowest mark run
first-mark test [] = omega (arith, trailing_of_zero 0)
first-mark test (d ∷ ds) = by (length ds) (of_lowest (map (mark test) ds)) (run test ds) (test d) (first-mark test ds)
  where
    by : (n m r : ℕ) (t : Bool) → count_trailing_zeros (8 * n) m / 8 ≡ r → count_trailing_zeros (8 * suc n) (cond t 0 128 + 256 * m) / 8 ≡ cond t (suc r) 0
    by n m r true e =
        let width : 8 * suc n ≡ 8 * n + 8 = omega arith in
        let number : 0 + 256 * m ≡ m * 256 = omega arith in
        omega (arith, ap₂ count_trailing_zeros width number ∙ zeros-below 8 (8 * n) m)
    by n m r false e =
        let width : 8 * suc n ≡ suc (8 * n) + 7 = omega arith in
        let number : 128 + 256 * m ≡ (2 * m + 1) * 128 = omega arith in
        omega (arith, ap₂ count_trailing_zeros width number ∙ zeros-below 7 (suc (8 * n)) (2 * m + 1), no-zeros (8 * n) (2 * m + 1) (omega arith))

pub first-is : (m : ℕ) (test : ℕ → Bool) (ds : List ℕ) → length ds ≡ 8 → m ≡ of_lowest (map (mark test) ds) → count_trailing_zeros 64 m / 8 ≡ run test ds
first-is m test ds l e = ap₂ (λ (k n : ℕ). count_trailing_zeros k n / 8) (ap (λ (n : ℕ). 8 * n) (sym l)) e ∙ first-mark test ds
