-- Tests on a byte, from facts that `omega` proves where an arm of a `match` returns; and that two texts are the same.
use Prim.Native.Nat.{◌≤◌, ℕ}
use native.Mathlib.Omega.{arith}
use mathlib.Core.Bool.{Bool, false, false≢true, true}
use mathlib.Core.List.{List, [], ◌∷◌}
use mathlib.Core.Path.{◌≡◌, ap₂, refl}
use lib.Dec.{eqb}
use borrow.Author.Tests.{eq-eqb, eqb-false, eqb-true, ne_eqb}
use Rattle.table.proofs.Laws.{and_both, between_is}
use Rattle.table.specs.Bytes.{between, is_white, same}

pub between-no : (lo hi b : ℕ) → (lo ≤ b → b ≤ hi → ⊥) → between lo hi b ≡ false
between-no lo hi b n = go (between lo hi b) refl
  where
    go : (t : Bool) → between lo hi b ≡ t → between lo hi b ≡ false
    go true e = absurd (n (between_is lo hi b e).0 (between_is lo hi b e).1)
    go false e = e

pub white-no : (b : ℕ) → (b ≡ 9 → ⊥) → (b ≡ 10 → ⊥) → (b ≡ 13 → ⊥) → (b ≡ 32 → ⊥) → is_white b ≡ false
unfolding is_white
white-no b x y z w = rw (ne_eqb b 9 x, ne_eqb b 10 y, ne_eqb b 13 z, ne_eqb b 32 w)

pub white-yes : (b : ℕ) → 9 ≤ b → b ≤ 10 → is_white b ≡ true
unfolding is_white
white-yes b h k = go (eqb b 9) refl
  where
    go : (t : Bool) → eqb b 9 ≡ t → is_white b ≡ true
    go true e = rw e
    go false e = rw (e, eq-eqb b 10 (omega (arith, eqb-false b 9 e)))

pub same-is : (s t : List ℕ) → same s t ≡ true → s ≡ t
unfolding same
same-is [] [] h = refl
same-is [] (b ∷ t) h = absurd (false≢true h)
same-is (a ∷ s) [] h = absurd (false≢true h)
same-is (a ∷ s) (b ∷ t) h =
    let k = and_both (eqb a b) (same s t) h in
    ap₂ (λ (x : ℕ) (y : List ℕ). x ∷ y) (eqb-true a b k.0) (same-is s t k.1)
