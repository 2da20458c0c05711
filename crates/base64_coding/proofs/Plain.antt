-- Runs of letters, four at a time. The values of four characters, added up or as the digits of one number, say whether all four are letters;
-- then the number's bytes are what they give, and a run is one four after the other.
use Prim.Native.Nat.{◌%◌, ◌*◌, ◌+◌, ◌-◌, ◌/◌, ◌<◌, ◌≤◌, suc, zero, ℕ}
use native.Mathlib.Numerals.{towards_suc}
use native.Mathlib.Omega.{arith}
use mathlib.Core.List.{List, [], ◌++◌, ◌∷◌, append_assoc}
use mathlib.Core.Path.{◌∙◌, ◌≡◌, ap, ap₂, refl, subst, sym}
use lib.ListN.{drop, get_or, length, length-append}
use lib.Seq.{drop-cons, sets}
use Rattle.base64_letters.proofs.Alphabet.{black, is-letter, no-pad, none-or-small, value-most}
use Rattle.base64_coding.proofs.Fours.{dense-keep, fours-plain}
use Rattle.base64_rules.specs.Base64.{decode, dense, fours, three_bytes}
use Rattle.base64_coding.specs.Clauses.{Bounded, LettersTo, before, four_number, four_sum, fours_bytes, number_bytes, value_at, values_at}
use Rattle.base64_letters.specs.Letters.{letter_value}
use Rattle.table.proofs.Wrote.{sets-append}
use Rattle.table.specs.Result.{Result, bad, good}

-- ---- bytes, and then others

before-nil : (r : Result ℕ (List ℕ)) → r ≡ before [] r
before-nil (good q) = refl
before-nil (bad n) = refl

before-append : (p q : List ℕ) (r : Result ℕ (List ℕ)) → before p (before q r) ≡ before (p ++ q) r
before-append p q (good t) = ap good (sym (append_assoc p q t))
before-append p q (bad n) = refl

-- ---- four letters

pub record FourLetters (s : List ℕ) (i : ℕ) : Type 0 where
  pub first : value_at s i < 64
  pub second : value_at s (i + 1) < 64
  pub third : value_at s (i + 2) < 64
  pub fourth : value_at s (i + 3) < 64

pub bounded : (s : List ℕ) (i : ℕ) (v : List ℕ) → v ≡ values_at s i → Bounded v
unfolding values_at
bounded s i v e = subst Bounded (sym e) (value-most _ _ refl, value-most _ _ refl, value-most _ _ refl, value-most _ _ refl)

module _ (s : List ℕ) (i : ℕ) where
  all-letters : value_at s i < 16777216 → value_at s (i + 1) < 16777216 → value_at s (i + 2) < 16777216 → value_at s (i + 3) < 16777216 → FourLetters s i
  all-letters a b c d = record { first = none-or-small _ a; second = none-or-small _ b; third = none-or-small _ c; fourth = none-or-small _ d }

  pub by-sum : (sum : ℕ) → sum ≡ four_sum (values_at s i) → sum < 256 → FourLetters s i
  unfolding values_at
  by-sum sum e h = all-letters (omega arith) (omega arith) (omega arith) (omega arith)

  pub by_number : (number : ℕ) → number ≡ four_number (values_at s i) → number < 16777216 → FourLetters s i
  unfolding values_at
  by_number number e h = all-letters (omega arith) (omega arith) (omega arith) (omega arith)

-- four values below 64, as three bytes and as one number
digits : (w x y z : ℕ) → w < 64 → x < 64 → y < 64 → z < 64
    → (w * 4 + x / 16) ∷ (x % 16 * 16 + y / 4) ∷ (y % 4 * 64 + z) ∷ [] ≡ number_bytes (((w * 64 + x) * 64 + y) * 64 + z)
digits w x y z a b c d =
    let p : w * 4 + x / 16 ≡ (((w * 64 + x) * 64 + y) * 64 + z) / 65536 = omega arith in
    let q : x % 16 * 16 + y / 4 ≡ (((w * 64 + x) * 64 + y) * 64 + z) / 256 % 256 = omega arith in
    let r : y % 4 * 64 + z ≡ (((w * 64 + x) * 64 + y) * 64 + z) % 256 = omega arith in
    ap₂ ◌∷◌ p (ap₂ ◌∷◌ q (ap (λ (b : ℕ). b ∷ []) r))

abbrev bytes_of : ℕ → ℕ → ℕ → ℕ → List ℕ
bytes_of x y z w = (letter_value x * 4 + letter_value y / 16) ∷ (letter_value y % 16 * 16 + letter_value z / 4) ∷ (letter_value z % 4 * 64 + letter_value w) ∷ []

module _ (x y z w : ℕ) (rest : List ℕ) (a : letter_value x < 64) (b : letter_value y < 64) (c : letter_value z < 64) (d : letter_value w < 64) where
  four-dense : dense (x ∷ y ∷ z ∷ w ∷ rest) ≡ x ∷ y ∷ z ∷ w ∷ dense rest
  four-dense =
      dense-keep x _ (black x a)
      ∙ ap (◌∷◌ x) (dense-keep y _ (black y b) ∙ ap (◌∷◌ y) (dense-keep z _ (black z c) ∙ ap (◌∷◌ z) (dense-keep w _ (black w d))))

  bytes-three : three_bytes x y z w ≡ good (bytes_of x y z w)
  unfolding three_bytes
  bytes-three = rw (is-letter x _ refl a, is-letter y _ refl b, is-letter z _ refl c, is-letter w _ refl d)

  four-first : fours (dense (x ∷ y ∷ z ∷ w ∷ rest)) ≡ before (bytes_of x y z w) (fours (dense rest))
  four-first = ap fours four-dense ∙ fours-plain x y z w (dense rest) (no-pad w d) ∙ rw bytes-three

next4 : (s : List ℕ) (i : ℕ) → i + 4 ≤ length s
    → drop i s ≡ get_or s i 0 ∷ get_or s (i + 1) 0 ∷ get_or s (i + 2) 0 ∷ get_or s (i + 3) 0 ∷ drop (i + 4) s
next4 s i h =
    simp towards_suc
    (drop-cons s i 0 (omega arith)
    ∙ ap (◌∷◌ (get_or s i 0)) (drop-cons s (suc i) 0 (omega arith)
    ∙ ap (◌∷◌ (get_or s (suc i) 0)) (drop-cons s (suc (suc i)) 0 (omega arith)
    ∙ ap (◌∷◌ (get_or s (suc (suc i)) 0)) (drop-cons s (suc (suc (suc i))) 0 (omega arith)))))

-- four letters give the bytes of their number, and then what the rest gives
four-step : (s : List ℕ) (i : ℕ) → i + 4 ≤ length s → FourLetters s i → decode (drop i s) ≡ before (number_bytes (four_number (values_at s i))) (decode (drop (i + 4) s))
unfolding decode values_at
four-step s i h f =
    ap (λ (l : List ℕ). fours (dense l)) (next4 s i h)
    ∙ four-first _ _ _ _ (drop (i + 4) s) f.first f.second f.third f.fourth
    ∙ ap (λ (p : List ℕ). before p (fours (dense (drop (i + 4) s))))
    (digits (value_at s i) (value_at s (i + 1)) (value_at s (i + 2)) (value_at s (i + 3)) f.first f.second f.third f.fourth)

-- ---- one four after the other

pub fours-length : (s : List ℕ) (from count : ℕ) → length (fours_bytes s from count) ≡ 3 * count
unfolding fours_bytes
fours-length s from zero = refl
fours-length s from (suc g) =
    let l = fours-length s from g in let e = length-append (fours_bytes s from g) (number_bytes (four_number (values_at s (from + 4 * g)))) in omega arith

pub fours-none : (s : List ℕ) (from : ℕ) → from ≤ length s → LettersTo s from from
unfolding fours_bytes
fours-none s from h = record { count = 0; far = omega arith; within = h; rest = before-nil _ }

pub fours-more : (s : List ℕ) (from i : ℕ) → LettersTo s from i → i + 4 ≤ length s → FourLetters s i → LettersTo s from (i + 4)
unfolding fours_bytes
fours-more s from i l h f = record {
  count = suc l.count;
  far = let e = l.far in omega arith;
  within = h;
  rest =
      l.rest ∙ ap (before (fours_bytes s from l.count)) (four-step s i h f) ∙ before-append (fours_bytes s from l.count) (number_bytes (four_number (values_at s i))) (decode (drop (i + 4) s))
      ∙ ap (λ (j : ℕ). before (fours_bytes s from l.count ++ number_bytes (four_number (values_at s j))) (decode (drop (i + 4) s))) l.far;
}

-- how many fours there are
pub fours-count : (s : List ℕ) (from i : ℕ) (l : LettersTo s from i) → l.count ≡ (i - from) / 4
fours-count s from i l = let e = l.far in omega arith

-- ---- their bytes, stored from n on

-- three numbers, one by one
pub three-of : (v : List ℕ) → length v ≡ 3 → get_or v 0 0 ∷ get_or v 1 0 ∷ get_or v 2 0 ∷ [] ≡ v
three-of [] h = absurd (omega arith)
three-of (x ∷ []) h = absurd (omega arith)
three-of (x ∷ y ∷ []) h = absurd (omega arith)
three-of (x ∷ y ∷ z ∷ []) h = refl
three-of (x ∷ y ∷ z ∷ a ∷ v) h = absurd (omega arith)

pub record Stored (s out : List ℕ) (from n i o : ℕ) (buffer : List ℕ) : Type 0 where
  pub letters : LettersTo s from i
  pub place : o ≡ n + 3 * letters.count
  pub bytes : buffer ≡ sets out n (fours_bytes s from letters.count)

pub stored-none : (s out : List ℕ) (from n : ℕ) → from ≤ length s → Stored s out from n from n out
unfolding fours_bytes fours-none
stored-none s out from n h = record { letters = fours-none s from h; place = omega arith; bytes = refl }

pub stored_more : (s out : List ℕ) (from n i o next : ℕ) (buffer new : List ℕ) → Stored s out from n i o buffer → i + 4 ≤ length s → FourLetters s i → next ≡ o + 3
    → new ≡ sets buffer o (number_bytes (four_number (values_at s i))) → Stored s out from n (i + 4) next new
unfolding fours_bytes fours-more
stored_more s out from n i o next buffer new t h f k e =
    let g = t.letters.count in
    record {
      letters = fours-more s from i t.letters h f;
      place = let p = t.place in omega arith;
      bytes =
          e ∙ ap₂ (λ (b : List ℕ) (j : ℕ). sets b j (number_bytes (four_number (values_at s i)))) t.bytes (t.place ∙ ap (◌+◌ n) (sym (fours-length s from g)))
          ∙ ap (λ (j : ℕ). sets (sets out n (fours_bytes s from g)) (n + length (fours_bytes s from g)) (number_bytes (four_number (values_at s j)))) t.letters.far
          ∙ sets-append (fours_bytes s from g) (number_bytes (four_number (values_at s (from + 4 * g)))) out n;
    }

pub stored-all : (s out : List ℕ) (from n i o : ℕ) (buffer : List ℕ) → Stored s out from n i o buffer → buffer ≡ sets out n (fours_bytes s from ((i - from) / 4))
stored-all s out from n i o buffer t = t.bytes ∙ ap (λ (g : ℕ). sets out n (fours_bytes s from g)) (fours-count s from i t.letters)
