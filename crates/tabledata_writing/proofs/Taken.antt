-- The elements that stand at the front of a scratch: what Writing says of elements, by their places in the scratch. All by the place in what is taken.
use Prim.Native.Nat.{◌+◌, ◌<◌, ◌≤◌, ℕ}
use native.Mathlib.Omega.{arith}
use mathlib.Core.List.{List, [], ◌++◌, ◌∷◌, map}
use mathlib.Core.Path.{◌∙◌, ◌≡◌, ap, refl}
use lib.IntN.{pos, ℤ}
use lib.ListN.{drop, get_or, length, take}
use lib.Seq.{get_or-take, length-take-le}
use Rattle.tabledata.specs.TableData.{joined, spaced}
use Rattle.tabledata_writing.proofs.Writing.{joined-more, joined_end, spaced-first}

pub taken_at : (l : List ℤ) (n k : ℕ) → k < n → get_or (take n l) k (pos 0) ≡ get_or l k (pos 0)
taken_at l n k h = get_or-take n l k (pos 0) h

pub taken-long : (l : List ℤ) (n : ℕ) → n ≤ length l → length (take n l) ≡ n
taken-long l n h = length-take-le n l h

module _ (f : ℤ → List ℕ) (l : List ℤ) (n k : ℕ) (h : n ≤ length l) where
  pub taken_more : k < n → joined f (drop k (take n l)) ≡ f (get_or l k (pos 0)) ++ joined f (drop (k + 1) (take n l))
  taken_more i = joined-more f (take n l) k (omega (arith, taken-long l n h)) ∙ ap (λ (z : ℤ). f z ++ joined f (drop (k + 1) (take n l))) (taken_at l n k i)

  pub taken-end : n ≤ k → joined f (drop k (take n l)) ≡ []
  taken-end i = joined_end f (take n l) k (omega (arith, taken-long l n h))

spaced-any : (g : ℤ → List ℕ) (es : List ℤ) → 1 ≤ length es → spaced (map g es) ≡ g (get_or es 0 (pos 0)) ++ joined (λ z. 32 ∷ g z) (drop 1 es)
spaced-any g [] h = absurd (omega arith)
spaced-any g (e ∷ es) h = spaced-first g (e ∷ es) e es refl

pub spaced-taken : (g : ℤ → List ℕ) (l : List ℤ) (n : ℕ) → n ≤ length l → (n ≡ 0 → ⊥) → spaced (map g (take n l)) ≡ g (get_or l 0 (pos 0)) ++ joined (λ z. 32 ∷ g z) (drop 1 (take n l))
spaced-taken g l n h i =
    spaced-any g (take n l) (omega (arith, taken-long l n h, i))
    ∙ ap (λ (z : ℤ). g z ++ joined (λ z. 32 ∷ g z) (drop 1 (take n l))) (taken_at l n 0 (omega (arith, i)))
