-- Which characters are text and which stand for themselves: by cases on the tests.
use Prim.Native.Nat.{◌<◌, ◌≤◌, ℕ}
use native.Mathlib.Omega.{arith}
use mathlib.Core.Bool.{Bool, ◌&&◌, ◌||◌, and-false, false, not, or-true, true}
use mathlib.Core.Path.{◌≡◌, refl}
use lib.Dec.{eqb}
use borrow.Author.Tests.{eq-eqb, eqb-false, eqb-true, ne_eqb, not-true}
use Rattle.table.proofs.Bytes.{between-no}
use Rattle.table.proofs.Laws.{and_both, between_is, between-yes, or-either}
use Rattle.table.specs.Bytes.{between, is_white}
use Rattle.tabledata.specs.Clauses.{is_plain}
use Rattle.tabledata.specs.TableData.{is_text}

-- ---- which characters are text

pub text-not : (c : ℕ) → (c ≡ 9 → ⊥) → (c ≡ 10 → ⊥) → (c ≡ 13 → ⊥) → ((32 ≤ c) × (c ≤ 127) → ⊥) → is_text c ≡ false
unfolding is_text
text-not c x y z w = rw (ne_eqb c 9 x, ne_eqb c 10 y, ne_eqb c 13 z, between-no 32 127 c (λ h k. w (h, k)))

pub text-yes : (c : ℕ) → 32 ≤ c → c ≤ 127 → is_text c ≡ true
unfolding is_text
text-yes c h k = rw (between-yes 32 127 c h k, or-true)

pub text-low : (c : ℕ) → 9 ≤ c → c ≤ 10 → is_text c ≡ true
unfolding is_text
text-low c h k = go (eqb c 9) refl
  where
    go : (t : Bool) → eqb c 9 ≡ t → is_text c ≡ true
    go true e = rw e
    go false e = rw (e, eq-eqb c 10 (omega (arith, eqb-false c 9 e)))

pub white-text : (c : ℕ) → is_white c ≡ true → is_text c ≡ true
unfolding is_white is_text
white-text c h =
    or-either (eqb c 9 || eqb c 10 || eqb c 13) (eqb c 32) h (λ e. rw e) (λ e. text-yes c (omega (arith, eqb-true c 32 e)) (omega (arith, eqb-true c 32 e)))

-- ---- characters that stand for themselves

pub plain-is : (c : ℕ) → is_plain c ≡ true → ((c ≡ 60 → ⊥) × (c ≡ 38 → ⊥) × (c ≡ 13 → ⊥)) × (is_text c ≡ true)
unfolding is_plain is_text
plain-is c h =
    let a : (not (eqb c 38) && not (eqb c 60) ≡ true) × (between 32 127 c ≡ true) = and_both _ _ h in
    let b : (not (eqb c 38) ≡ true) × (not (eqb c 60) ≡ true) = and_both _ _ a.0 in (
      (eqb-false c 60 (not-true (eqb c 60) b.1), eqb-false c 38 (not-true (eqb c 38) b.0), λ e. omega (arith, between_is 32 127 c a.1, e)),
      rw (a.1, or-true),
    )

pub plain-yes : (c : ℕ) → (c ≡ 38 → ⊥) → (c ≡ 60 → ⊥) → 32 ≤ c → c ≤ 127 → is_plain c ≡ true
unfolding is_plain
plain-yes c x y h k = rw (ne_eqb c 38 x, ne_eqb c 60 y, between-yes 32 127 c h k)

pub plain-low : (c : ℕ) → c < 32 → is_plain c ≡ false
unfolding is_plain
plain-low c h = rw (between-no 32 127 c (λ a b. omega arith), and-false)

pub plain-high : (c : ℕ) → 127 < c → is_plain c ≡ false
unfolding is_plain
plain-high c h = rw (between-no 32 127 c (λ a b. omega arith), and-false)
