-- Bytes at a place of a text: numbers read one after the other are one number, and so are numbers stored.
use Prim.Native.Nat.{◌%◌, ◌*◌, ◌+◌, ◌/◌, ◌<◌, ◌^◌, ◌≤◌, suc, zero, ℕ}
use native.Mathlib.Numerals.{add-one}
use native.Mathlib.Nat.{div-one, pow-zero}
use native.Mathlib.Omega.{arith}
use mathlib.Core.List.{List, [], ◌++◌, ◌∷◌}
use mathlib.Core.Path.{◌∙◌, ◌≡◌, ap, ap₂, refl, sym}
use lib.ListN.{drop, get_or, length, length-drop, set, take}
use lib.Seq.{drop-cons, drop-drop, get_or-drop, length-take-le, take-add, take-suc}
use Rattle.std.specs.Int.{bytes_high_first}
use Rattle.number.proofs.Laws.{of-append, of-from}
use Rattle.number.specs.Number.{of_digits, to_digits}
use Rattle.table.specs.Wrote.{Wrote}

-- ---- numbers one after the other

module _ (b : ℕ) where
  of_parts : (n m at : ℕ) (s : List ℕ) → at + n + m ≤ length s
      → of_digits b 0 (take (n + m) (drop at s)) ≡ of_digits b 0 (take n (drop at s)) * b ^ m + of_digits b 0 (take m (drop (at + n) s))
  of_parts n m at s h =
      ap (of_digits b 0) (take-add n m (drop at s))
      ∙ of-append b 0 (take n (drop at s)) (take m (drop n (drop at s)))
      ∙ ap (λ (l : List ℕ). of_digits b (of_digits b 0 (take n (drop at s))) (take m l)) (drop-drop n at s)
      ∙ of-from b (of_digits b 0 (take n (drop at s))) (take m (drop (at + n) s))
      ∙ ap (λ (k : ℕ). of_digits b 0 (take n (drop at s)) * b ^ k + of_digits b 0 (take m (drop (at + n) s)))
      (length-take-le m (drop (at + n) s) (simp length-drop (omega arith)))

  pub of_one : (at : ℕ) (s : List ℕ) → at < length s → of_digits b 0 (take 1 (drop at s)) ≡ get_or s at 0
  unfolding of_digits
  of_one at s h = rw (drop-cons s at 0 h) (omega arith)

  -- a digit after a number
  pub of-next : (n at : ℕ) (s : List ℕ) {x : ℕ} → at + n < length s
      → x ≡ of_digits b 0 (take n (drop at s)) → x * b + get_or s (at + n) 0 ≡ of_digits b 0 (take (suc n) (drop at s))
  unfolding of_digits
  of-next n at s {x} h e =
      ap (λ (y : ℕ). y * b + get_or s (at + n) 0) e
      ∙ sym (of-append b 0 (take n (drop at s)) (get_or s (at + n) 0 ∷ []))
      ∙ ap (of_digits b 0) (sym (take-suc (drop at s) n 0 (simp length-drop (omega arith)) ∙ ap (λ (d : ℕ). take n (drop at s) ++ (d ∷ [])) (get_or-drop at s n 0)))

  -- two numbers read one after the other are one
  pub of-join : (n m at : ℕ) (s : List ℕ) {x y : ℕ} → at + n + m ≤ length s
      → x ≡ of_digits b 0 (take n (drop at s)) → y ≡ of_digits b 0 (take m (drop (at + n) s))
      → x * b ^ m + y ≡ of_digits b 0 (take (n + m) (drop at s))
  of-join n m at s {x} {y} h e k = ap₂ (λ (u v : ℕ). u * b ^ m + v) e k ∙ sym (of_parts n m at s h)

-- ---- the library's bytes, the highest first

pub high_first : (w n : ℕ) → bytes_high_first w n ≡ to_digits 256 w n
unfolding to_digits
high_first zero n = refl
high_first (suc zero) n = rw (pow-zero, div-one)
high_first (suc (suc w)) n = ap (λ (ds : List ℕ). n / 256 ^ suc w % 256 ∷ ds) (high_first (suc w) n)

-- ---- one byte, two bytes

pub store-one : (l : List ℕ) (i x n : ℕ) → n ≡ x % 256 → Wrote l i (to_digits 256 1 x) (set l i n) (i + 1)
unfolding to_digits
store-one l i x n e = record { now-is = ap (set l i) (e ∙ omega arith); next-is = refl }

pub store_two : (l : List ℕ) (i x : ℕ) → x < 65536 → Wrote l i (to_digits 256 2 x) (set (set l i (x / 256)) (i + 1) (x % 256)) (i + 2)
unfolding to_digits
store_two l i x h = record {
  now-is = rw (add-one i) (ap₂ (λ (a b : ℕ). set (set l i a) (suc i) b) (omega arith) (omega arith));
  next-is = refl;
}
