-- A word of a boolean cell, spelled as a number: the number tells which word it is.
use Prim.Native.Nat.{◌*◌, ◌+◌, ◌<◌, ◌≤◌, ℕ}
use native.Mathlib.Nat.{le_refl}
use native.Mathlib.Omega.{arith}
use mathlib.Core.Bool.{Bool, ◌&&◌, ◌||◌, and_assoc, and-false, and-true, cond, false, false≢true, or-true, true}
use mathlib.Core.List.{List, [], ◌++◌, ◌∷◌, map}
use mathlib.Core.Path.{◌∙◌, ◌≡◌, ap, refl, sym}
use lib.Dec.{eqb, leb, lit≤}
use lib.IntN.{negsuc, pos, ℤ}
use lib.ListN.{length}
use borrow.Author.Tests.{eq-eqb, eqb-false, eqb-true, le-leb, leb-false, leb-true, lt-leb, ne_eqb}
use Rattle.table.proofs.Bytes.{between-no}
use Rattle.table.proofs.Laws.{all_below, and_both, between_is, between-yes, cond_cases, each_below}
use Rattle.table.specs.Bytes.{between, bytes, same, words}
use Rattle.table.specs.Result.{Result, bad, every, good}
use Rattle.std.specs.Prelude.{None, Option, Some}
use Rattle.table.specs.Shape.{Truths}
use Rattle.tabledata.proofs.Laws.{text-lt}
use Rattle.tabledata.specs.TableData.{all_text, is_text, lower, text_elements, truth_letter, truth_word}
use Rattle.element_reading.specs.Words.{spell, spelled, spelling, truth_number}

-- ---- a word as a number

spelled-more : (q : ℕ) (w : List ℕ) (c : ℕ) → spelled q (w ++ (c ∷ [])) ≡ spell (spelled q w) c
unfolding spelled
spelled-more q [] c = refl
spelled-more q (b ∷ w) c = spelled-more (spell q b) w c

-- a letter more
pub spelling-more : (w : List ℕ) (q c r : ℕ) → q ≡ spelling w → r ≡ spell q c → r ≡ spelling (w ++ (c ∷ []))
spelling-more w q c r e f = f ∙ ap (λ (n : ℕ). spell n c) e ∙ sym (spelled-more 1 w c)

pub spell-low : (q c : ℕ) → q < 281474976710656 → c < 128 → spell q c ≡ q * 256 + lower c
unfolding spell
spell-low q c h k = rw (lt-leb 281474976710656 q h, lt-leb 128 c k)

pub lower-not : (c : ℕ) → (65 ≤ c → c ≤ 90 → ⊥) → lower c ≡ c
unfolding lower
lower-not c h = rw (between-no 65 90 c h)

pub lower-yes : (c : ℕ) → 65 ≤ c → c ≤ 90 → lower c ≡ c + 32
unfolding lower
lower-yes c h k = rw (between-yes 65 90 c h k)

pub lower-lt : (c : ℕ) → c < 128 → lower c < 128
unfolding lower
lower-lt c h = cond_cases (λ (n : ℕ). n < 128) (between 65 90 c) (c + 32) c (λ e. omega (arith, between_is 65 90 c e)) (λ _. h)

pub spell_high : (q c : ℕ) → 281474976710656 ≤ q → spell q c ≡ 281474976710656
unfolding spell
spell_high q c h = rw (le-leb 281474976710656 q h)

pub spell-wide : (q c : ℕ) → 128 ≤ c → spell q c ≡ 281474976710656
unfolding spell
spell-wide q c h = rw (le-leb 128 c h, or-true)

spell-least : (n q c : ℕ) → n ≤ 281474976710656 → n ≤ q * 256 → n ≤ spell q c
unfolding spell
spell-least n q c h k =
    cond_cases (λ (m : ℕ). n ≤ m) (leb 281474976710656 q || leb 128 c) 281474976710656 (q * 256 + lower c) (λ _. h) (λ _. omega arith)

spelled-least : (n q : ℕ) (w : List ℕ) → n ≤ 281474976710656 → n ≤ q → n ≤ spelled q w
unfolding spelled
spelled-least n q [] h k = k
spelled-least n q (c ∷ w) h k = spelled-least n (spell q c) w h (spell-least n q c h (omega arith))

-- ---- two words have one number where they are the same

-- letters that are lower case already, with no bound
unfoldable number_from : ℕ → List ℕ → ℕ
number_from p [] = p
number_from p (b ∷ v) = number_from (p * 256 + b) v

number-least : (p : ℕ) (v : List ℕ) → p ≤ number_from p v
unfolding number_from
number-least p [] = le_refl p
number-least p (b ∷ v) = omega (arith, number-least (p * 256 + b) v)

same-letter : (q p a b : ℕ) → a < 256 → b < 256 → eqb (q * 256 + a) (p * 256 + b) ≡ (eqb q p && eqb a b)
same-letter q p a b h k = go (eqb q p) refl (eqb a b) refl
  where
    go : (x : Bool) → eqb q p ≡ x → (y : Bool) → eqb a b ≡ y → eqb (q * 256 + a) (p * 256 + b) ≡ (eqb q p && eqb a b)
    go true e true f = rw (e, f) (eq-eqb (q * 256 + a) (p * 256 + b) (omega (arith, eqb-true q p e, eqb-true a b f)))
    go true e false f = rw (e, f) (ne_eqb (q * 256 + a) (p * 256 + b) (λ g. eqb-false a b f (omega (arith, eqb-true q p e))))
    go false e y f = rw e (ne_eqb (q * 256 + a) (p * 256 + b) (λ g. eqb-false q p e (omega arith)))

-- from two numbers of as many digits (between x and 2 * x), however the words go on
same_number : (x q p : ℕ) (w v : List ℕ) → (1 ≤ x) × (x ≤ q) × (q < 2 * x) × (x ≤ p) × (p < 2 * x) → all_text v ≡ true
    → number_from p v < 281474976710656 → eqb (spelled q w) (number_from p v) ≡ (eqb q p && same (map lower w) v)
unfolding spelled number_from same all_text
same_number x q p [] [] s a h = rw and-true
same_number x q p [] (b ∷ v) s a h = rw and-false (ne_eqb q (number_from (p * 256 + b) v) (λ e. omega (arith, s, number-least (p * 256 + b) v)))
same_number x q p (c ∷ w) [] s a h =
    let more = spelled-least (p + 1) (spell q c) w (omega arith) (spell-least (p + 1) q c (omega arith) (omega (arith, s))) in
    rw and-false (ne_eqb (spelled (spell q c) w) p (λ e. omega (arith, more)))
same_number x q p (c ∷ w) (b ∷ v) s a h = go (leb 128 c) refl (λ next. same_number (x * 256) (q * 256 + lower c) (p * 256 + b) w v next (and_both (is_text b) (all_text v) a).1 h)
  where
    Digits : Type 0
    Digits = (1 ≤ x * 256) × (x * 256 ≤ q * 256 + lower c) × (q * 256 + lower c < 2 * (x * 256)) × (x * 256 ≤ p * 256 + b) × (p * 256 + b < 2 * (x * 256))

    low : b < 128
    low = (text-lt b (and_both (is_text b) (all_text v) a).0).1

    go : (t : Bool) → leb 128 c ≡ t
        → (Digits → eqb (spelled (q * 256 + lower c) w) (number_from (p * 256 + b) v) ≡ (eqb (q * 256 + lower c) (p * 256 + b) && same (map lower w) v))
        → eqb (spelled (spell q c) w) (number_from (p * 256 + b) v) ≡ (eqb q p && (eqb (lower c) b && same (map lower w) v))
    go true e more =
        let wide = leb-true 128 c e in let least = spelled-least 281474976710656 281474976710656 w (le_refl _) (le_refl _) in
        rw (spell-wide q c wide, lower-not c (λ k l. omega arith), ne_eqb c b (λ i. omega (arith, low)), and-false)
        (ne_eqb (spelled 281474976710656 w) (number_from (p * 256 + b) v) (λ i. omega (arith, h, least)))
    go false e more =
        let narrow = leb-false 128 c e in let small = lower-lt c narrow in let least = number-least (p * 256 + b) v in
        rw (spell-low q c (omega (arith, s, h)) narrow) (
        more (omega (arith, s), omega (arith, s), omega (arith, s), omega (arith, s), omega (arith, s, low))
        ∙ ap (λ (y : Bool). y && same (map lower w) v) (same-letter q p (lower c) b (omega arith) (omega (arith, low)))
        ∙ and_assoc (eqb q p) (eqb (lower c) b) (same (map lower w) v))

-- a word has the number of one that is written in small letters where it is that word
same_word : (w v : List ℕ) → all_text v ≡ true → number_from 1 v < 281474976710656 → eqb (spelling w) (number_from 1 v) ≡ same (map lower w) v
same_word w v a h = same_number 1 1 1 w v (lit≤ tt, lit≤ tt, lit≤ tt, lit≤ tt, lit≤ tt) a h

-- what a value stands for
abbrev pub truth_as : Option ℕ → Result ℕ ℤ
truth_as (Some n) = good (pos n)
truth_as None = bad 11

abbrev code_of : Result ℕ ℤ → Option ℕ
code_of (good (pos n)) = Some n
code_of (good (negsuc n)) = None
code_of (bad e) = None

letter-as : (a : ℕ) → truth_letter a ≡ truth_as (code_of (truth_letter a))
unfolding truth_letter
letter-as a =
    cond_cases P (eqb a 84 || eqb a 116 || eqb a 49) _ _ (λ _. refl) (λ _.
    cond_cases P (eqb a 70 || eqb a 102 || eqb a 48) _ _ (λ _. refl) (λ _.
    cond_cases P (eqb a 63) _ _ (λ _. refl) (λ _. refl)))
  where
    P : Result ℕ ℤ → Type 0
    P r = r ≡ truth_as (code_of r)

-- the number of one letter stands for what the letter does
abbrev same_code : Option ℕ → Option ℕ → Bool
same_code (Some n) (Some m) = eqb n m
same_code (Some n) None = false
same_code None (Some m) = false
same_code None None = true

codes-same : (a b : Option ℕ) → same_code a b ≡ true → a ≡ b
codes-same (Some n) (Some m) e = ap Some (eqb-true n m e)
codes-same (Some n) None e = absurd (false≢true e)
codes-same None (Some m) e = absurd (false≢true e)
codes-same None None e = refl

abbrev one_same : ℕ → Bool
one_same a = same_code (code_of (truth_letter a)) (truth_number (spelling (a ∷ [])))

letters-same : all_below one_same 128 ≡ true
unfolding truth_letter truth_number spelled spell lower between
letters-same = refl

letter-wide : (a : ℕ) → 128 ≤ a → truth_letter a ≡ truth_as (truth_number (spelling (a ∷ [])))
unfolding truth_letter spelled truth_number
letter-wide a h =
    rw (
      spell-wide 1 a h,
      ne_eqb a 84 (λ e. omega arith),
      ne_eqb a 116 (λ e. omega arith),
      ne_eqb a 49 (λ e. omega arith),
      ne_eqb a 70 (λ e. omega arith),
      ne_eqb a 102 (λ e. omega arith),
      ne_eqb a 48 (λ e. omega arith),
      ne_eqb a 63 (λ e. omega arith),
    )

value-one : (a : ℕ) → truth_word (a ∷ []) ≡ truth_as (truth_number (spelling (a ∷ [])))
unfolding truth_word
value-one a = go (leb 128 a) refl
  where
    go : (t : Bool) → leb 128 a ≡ t → truth_letter a ≡ truth_as (truth_number (spelling (a ∷ [])))
    go true e = letter-wide a (leb-true 128 a e)
    go false e =
        letter-as a ∙ ap truth_as (codes-same (code_of (truth_letter a)) (truth_number (spelling (a ∷ []))) (each_below one_same 128 letters-same a (leb-false 128 a e)))

-- the number of a word, by the words that it may be
number_is : (w : List ℕ) → let small = map lower w in
    truth_number (spelling w)
    ≡ cond (same small (bytes "t")) (Some 1) (cond (same small (bytes "1")) (Some 1) (cond (same small (bytes "true")) (Some 1)
    (cond (same small (bytes "f")) (Some 0) (cond (same small (bytes "0")) (Some 0) (cond (same small (bytes "false")) (Some 0)
    (cond (same small (bytes "?")) (Some 2) None))))))
unfolding truth_number number_from all_text is_text between
number_is w =
    rw (
      same_word w (bytes "t") refl (lit≤ tt),
      same_word w (bytes "1") refl (lit≤ tt),
      same_word w (bytes "true") refl (lit≤ tt),
      same_word w (bytes "f") refl (lit≤ tt),
      same_word w (bytes "0") refl (lit≤ tt),
      same_word w (bytes "false") refl (lit≤ tt),
      same_word w (bytes "?") refl (lit≤ tt),
    )

longer : (a b c : ℕ) (w : List ℕ) → same (a ∷ b ∷ w) (c ∷ []) ≡ false
unfolding same
longer a b c w = rw and-false

decided : (x y : Bool) → ◌≡◌ {A = Result ℕ ℤ} (cond x (good (pos 1)) (cond y (good (pos 0)) (bad 11))) (truth_as (cond x (Some 1) (cond y (Some 0) None)))
decided true y = refl
decided false true = refl
decided false false = refl

-- two letters or more: `true`, `false`, or no word
value-more : (a b : ℕ) (w : List ℕ) → truth_word (a ∷ b ∷ w) ≡ truth_as (truth_number (spelling (a ∷ b ∷ w)))
unfolding truth_word
value-more a b w =
    let small = map lower (a ∷ b ∷ w) in
    decided (same small (bytes "true")) (same small (bytes "false")) ∙ ap truth_as (sym (number_is (a ∷ b ∷ w) ∙ simp longer))

pub truth-value : (w : List ℕ) → 1 ≤ length w → truth_word w ≡ truth_as (truth_number (spelling w))
truth-value [] h = absurd (omega arith)
truth-value (a ∷ []) h = value-one a
truth-value (a ∷ b ∷ w) h = value-more a b w

-- the number of no letter at all
pub spelling-none : (w : List ℕ) → spelling w ≡ 1 → w ≡ []
unfolding spelled
spelling-none [] e = refl
spelling-none (c ∷ w) e = absurd (omega (arith, e, spelled-least 2 (spell 1 c) w (lit≤ tt) (spell-least 2 1 c (lit≤ tt) (lit≤ tt))))

pub spelling-some : (w : List ℕ) → (spelling w ≡ 1 → ⊥) → 1 ≤ length w
unfolding spelled
spelling-some [] h = absurd (h refl)
spelling-some (c ∷ w) h = omega arith

pub truths-are : (w : List ℕ) → text_elements Truths w ≡ every truth_word (words w)
unfolding text_elements
truths-are w = refl
