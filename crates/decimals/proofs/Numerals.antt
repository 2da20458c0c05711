-- The n low decimal digits of a number: they are the shortest digits where there are n, and the last of them is stored first.
use Prim.Native.Nat.{◌%◌, ◌+◌, ◌-◌, ◌/◌, ◌<◌, ◌≤◌, suc, zero, ℕ}
use native.Mathlib.Nat.{add-zero}
use native.Mathlib.Numerals.{add-one, sub-one}
use native.Mathlib.Omega.{arith}
use mathlib.Core.Bool.{false, true}
use mathlib.Core.List.{List, [], ◌++◌, ◌∷◌, map}
use mathlib.Core.Path.{◌∙◌, ◌≡◌, ap, refl, sym}
use lib.Dec.{lit<}
use lib.IntN.{nat_abs, pos, ℤ}
use lib.ListN.{length, length-append, length-map, set}
use lib.Seq.{set_comm, sets}
use lib.Signed.{le_z}
use mir.Facts.{to_z-of_z}
use mir.Syntax.{w64}
use mir.Val.{SFits, of_z, to_z}
use Rattle.decimals.specs.Clauses.{numerals}
use Rattle.number.proofs.Decimal.{more-digits, one-digit, shortest-down, shortest-up, small-or}
use Rattle.number.proofs.Laws.{digits_last, length_to}
use Rattle.number.proofs.Signed.{down, up}
use Rattle.number.specs.Number.{digits, shortest, to_digits}

-- ---- which digits

map-append : (f : ℕ → ℕ) (xs ys : List ℕ) → map f (xs ++ ys) ≡ map f xs ++ map f ys
map-append f [] ys = refl
map-append f (x ∷ xs) ys = ap {B = List ℕ} (λ l. f x ∷ l) (map-append f xs ys)

pub numerals-last : (n x : ℕ) → numerals (suc n) x ≡ numerals n (x / 10) ++ ((x % 10 + 48) ∷ [])
unfolding numerals
numerals-last n x =
    ap (map (λ (d : ℕ). d + 48)) (digits_last 10 (lit< tt) n x)
    ∙ map-append (λ (d : ℕ). d + 48) (to_digits 10 n (x / 10)) (x % 10 ∷ [])

pub numerals-none : (x : ℕ) → numerals 0 x ≡ []
unfolding numerals to_digits
numerals-none x = refl

pub length-numerals : (n x : ℕ) → length (numerals n x) ≡ n
unfolding numerals
length-numerals n x = length-map (to_digits 10 n x) (λ (d : ℕ). d + 48) ∙ length_to 10 n x

-- the shortest digits are the numerals, as many as there are
pub digits-numerals : (f x : ℕ) → digits f x ≡ numerals (length (digits f x)) x
unfolding digits
digits-numerals zero x = sym (numerals-none x)
digits-numerals (suc f) x =
    small-or x
    (λ s. one-digit f x s ∙ sym (ap (λ (ds : List ℕ). numerals (length ds) x) (one-digit f x s) ∙ numerals-last 0 x ∙ rw (numerals-none (x / 10)) (ap (λ (d : ℕ). (d + 48) ∷ []) (omega arith))))
    (λ m. more-digits f x m
    ∙ ap (λ (ds : List ℕ). ds ++ ((x % 10 + 48) ∷ [])) (digits-numerals f (x / 10))
    ∙ sym (numerals-last (length (digits f (x / 10))) x)
    ∙ ap (λ (n : ℕ). numerals n x) (sym (ap length (more-digits f x m) ∙ length-append (digits f (x / 10)) ((x % 10 + 48) ∷ []) ∙ add-one (length (digits f (x / 10))))))

-- ---- the last digit is stored first

-- the last store of a run may come first
sets_last : (xs l : List ℕ) (i y : ℕ) → sets l i (xs ++ (y ∷ [])) ≡ sets (set l (i + length xs) y) i xs
sets_last [] l i y = simp add-zero
sets_last (x ∷ xs) l i y =
    sets_last xs (set l i x) (suc i) y
    ∙ ap (λ (k : List ℕ). sets k (suc i) xs)
    (set_comm l i (suc i + length xs) x y (λ e. omega arith) ∙ ap (λ (j : ℕ). set (set l j y) i x) (omega arith))

pub numerals-store : (k x : ℕ) (l : List ℕ) (i : ℕ) → 0 < k
    → sets l i (numerals k x) ≡ sets (set l (i + (k - 1)) (x % 10 + 48)) i (numerals (k - 1) (x / 10))
numerals-store zero x l i h = absurd (let z : 0 < zero = h in omega arith)
numerals-store (suc k) x l i h =
    rw (numerals-last k x, sub-one)
    (sets_last (numerals k (x / 10)) l i (x % 10 + 48)
    ∙ ap (λ (n : ℕ). sets (set l (i + n) (x % 10 + 48)) i (numerals k (x / 10))) (length-numerals k (x / 10)))

pub numerals-pair : (k x : ℕ) (l : List ℕ) (i : ℕ) → 2 ≤ k
    → sets l i (numerals k x)
    ≡ sets (set (set l (i + (k - 2) + 1) (x % 100 % 10 + 48)) (i + (k - 2)) (x % 100 / 10 + 48)) i (numerals (k - 2) (x / 100))
numerals-pair k x l i h =
    let last : i + (k - 1) ≡ i + (k - 2) + 1 = omega arith in
    let low : x % 10 ≡ x % 100 % 10 = omega arith in
    let before : k - 1 - 1 ≡ k - 2 = omega arith in
    let high : x / 10 % 10 ≡ x % 100 / 10 = omega arith in
    let rest : x / 10 / 10 ≡ x / 100 = omega arith in
    numerals-store k x l i (omega arith)
    ∙ numerals-store (k - 1) (x / 10) (set l (i + (k - 1)) (x % 10 + 48)) i (omega arith)
    ∙ rw (last, low, before, high, rest)

pub numerals-one : (k x : ℕ) (l : List ℕ) (i : ℕ) → k ≡ 1 → sets l i (numerals k x) ≡ set l i (x % 10 + 48)
numerals-one k x l i e = rw (e, numerals-last 0 x, numerals-none (x / 10))

-- ---- the digits of an integer without its sign, by the test `0 <= z`

module _ (z : ℤ) (x : ℕ) (f : SFits w64 z) (is : x ≡ nat_abs (to_z w64 (of_z w64 z))) where
  pub text-up : le_z (pos 0) (to_z w64 (of_z w64 z)) ≡ true → digits 20 x ≡ shortest z
  text-up e = ap (digits 20) (is ∙ ap nat_abs (to_z-of_z f)) ∙ sym (shortest-up z (up w64 z f e))

  pub text-down : le_z (pos 0) (to_z w64 (of_z w64 z)) ≡ false → 45 ∷ digits 20 x ≡ shortest z
  text-down e = ap {B = List ℕ} (λ (n : ℕ). 45 ∷ digits 20 n) (is ∙ ap nat_abs (to_z-of_z f)) ∙ sym (shortest-down z (down w64 z f e))
