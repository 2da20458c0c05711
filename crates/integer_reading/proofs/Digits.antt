-- Runs of digits and the integers that they are: a run behind a run is one run, and a word of a run, or of a minus and a run, reads as its number.
use Prim.Native.Nat.{◌*◌, ◌+◌, ◌-◌, ◌<◌, ◌^◌, ◌≤◌, ℕ}
use native.Mathlib.Nat.{pow-le-pow_right}
use native.Mathlib.Omega.{arith}
use mathlib.Core.Bool.{Bool, cond, false, false≢true, not, true}
use mathlib.Core.List.{List, [], ◌++◌, ◌∷◌, map}
use mathlib.Core.Path.{◌∙◌, ◌≡◌, ap, ap₂, refl, subst, subst₂, sym}
use lib.Bits.{bit_xor}
use lib.Dec.{eqb, lit<, ltb}
use lib.IntN.{pos}
use lib.ListN.{drop, get_or, length, length-drop, take}
use lib.Seq.{drop-drop, length-take-le, take-add, take-take}
use borrow.Author.Tests.{eq-eqb, ne_eqb}
use Rattle.integer_reading.proofs.Runs.{passes-length, passes_none, passes_then}
use Rattle.integer_reading.proofs.Figures.{InBase, figure-is, figures-are, figures-below, figures-join, length-figures}
use Rattle.integer_reading.proofs.Spelling.{Itself, every_one, spells_one, spells-run, spells_then}
use Rattle.integer_reading.specs.Figures.{AfterMinus, EightAt, FiguresAt, Leading, ReadIn, a-minus, figures, is_digit, no_minus}
use Rattle.integer_reading.specs.Runs.{Passes}
use Rattle.moving.specs.Contents.{InText, Spells}
use Rattle.number.proofs.Laws.{IsDigit, digit-yes, of-append, of-from, of_lt, plain-read}
use Rattle.number.specs.Clauses.{is_signed, size, width_of}
use Rattle.number.specs.Number.{decimal, digit, numeral, of_digits, ranged, read_integer, with_sign}
use Rattle.number.specs.declared.Integer.{Integer}
use Rattle.table.proofs.Laws.{all_drop, all_take, all-weaken, between_is, between-yes, each_below, no-white}
use Rattle.table.proofs.Places.{next1}
use Rattle.table.proofs.Words.{words-one}
use Rattle.table.specs.Bytes.{between}
use Rattle.table.specs.All.{All, AreBytes}
use Rattle.table.specs.Result.{every, good, refused_as}
use Rattle.table.specs.Shape.{Whole, in_range}
use Rattle.tabledata.specs.TableData.{fault_number, integer_word, text_elements}
use Rattle.words.proofs.QuickLaws.{minus-in}
use Rattle.words.proofs.WordLaws.{after_minus, decimal-parts, up_in}
use Rattle.words.specs.Clauses.{top}

-- ---- digits

pub digit-is : (c : ℕ) → is_digit c ≡ true → IsDigit c
unfolding is_digit
digit-is c h = between_is 48 57 c h

module _ (w : List ℕ) (a : All (λ (c : ℕ). is_digit c ≡ true) w) where
  are-digits : All IsDigit w
  are-digits = all-weaken _ IsDigit w digit-is a

  in-base : All (InBase 10) w
  in-base = all-weaken _ (InBase 10) w (λ c h. ((digit-is c h).0, omega (arith, (digit-is c h).1))) a

  figures-small : All (λ (d : ℕ). d < 10) (figures w)
  figures-small = figures-below 10 w in-base

-- ---- runs

module _ {s : List ℕ} {at : ℕ} where
  pub figures-length : {n x : ℕ} → FiguresAt s at n x → length (take n (drop at s)) ≡ n
  figures-length r = passes-length r.digits

  pub figures-lt : {n x : ℕ} → FiguresAt s at n x → x < 10 ^ n
  figures-lt {n} {x} r =
      let w : List ℕ = take n (drop at s) in
      subst (λ (y : ℕ). y < 10 ^ n) (sym r.number_is)
      (subst (λ (k : ℕ). of_digits 10 0 (figures w) < 10 ^ k) (length-figures w ∙ figures-length r) (of_lt 10 (lit< tt) (figures w) (figures-small w r.digits.all)))

  pub figures-none : at ≤ length s → FiguresAt s at 0 0
  unfolding of_digits figures
  figures-none h = record { digits = passes_none h; number_is = refl }

  -- some of eight characters, read at once
  pub figures-read : {x n t r : ℕ} → AreBytes s → at + 8 ≤ length s → EightAt s at x → n ≤ 8 → Passes is_digit s at n → Leading x n t → ReadIn 10 t r → FiguresAt s at n r
  figures-read {x} {n} {t} {r} a h e few d lead read =
      let p : List ℕ = take 8 (drop at s) in
      let l : length p ≡ 8 = length-take-le 8 (drop at s) (simp length-drop (omega arith)) in
      let v : List ℕ = take n (drop at s) in
      let m : length v ≡ n = passes-length d in
      record {
        digits = d;
        number_is =
            read.read (figures v) (omega (arith, length-figures v, m)) (all-weaken _ _ (figures v) (λ d k. omega arith) (figures-small v d.all))
            (lead.leading p l (all_take _ 8 (drop at s) (all_drop _ at s a)) e
            ∙ ap (of_digits 256 0) (ap (map (λ (c : ℕ). bit_xor c 48)) (take-take n 8 (drop at s) few) ∙ figures-are 10 v (omega arith) (in-base v d.all)));
      }

-- a run behind a run: the place, the count and the number are what the code has for them
pub figures-then : {s : List ℕ} {at place m n count x y number : ℕ} → FiguresAt s at m x → FiguresAt s place n y → place ≡ at + m → count ≡ m + n → number ≡ x * 10 ^ n + y
    → FiguresAt s at count number
figures-then {s} {at} {place} {m} {n} {count} {x} {y} {number} p q here counted is =
    let u : List ℕ = take m (drop at s) in
    let v : List ℕ = take n (drop place s) in
    let both : take (m + n) (drop at s) ≡ u ++ v =
    take-add m n (drop at s) ∙ ap (λ (t : List ℕ). u ++ take n t) (drop-drop m at s ∙ ap (λ (k : ℕ). drop k s) (sym here)) in
    subst₂ (FiguresAt s at) (sym counted) (sym is)
    (record {
      digits = passes_then p.digits q.digits here refl;
      number_is = sym
          (ap (λ (t : List ℕ). of_digits 10 0 (figures t)) both ∙ ap (of_digits 10 0) (figures-join u v) ∙ of-append 10 0 (figures u) (figures v)
          ∙ of-from 10 (of_digits 10 0 (figures u)) (figures v)
          ∙ ap₂ (λ (z k : ℕ). z * 10 ^ k + of_digits 10 0 (figures v)) (sym p.number_is) (length-figures v ∙ figures-length q)
          ∙ ap (λ (z : ℕ). x * 10 ^ n + z) (sym q.number_is));
    })

pub power_le : (m n : ℕ) → m ≤ n → 10 ^ m ≤ 10 ^ n
power_le m n h = pow-le-pow_right (lit< tt) h

-- ---- what a run reads as

numeral-is : (w : List ℕ) (n : ℕ) → All (λ (c : ℕ). is_digit c ≡ true) w → numeral digit 10 n w ≡ good (of_digits 10 n (figures w))
unfolding numeral of_digits figures
numeral-is [] n a = refl
numeral-is (c ∷ w) n a = rw (digit-yes c (digit-is c a.0).0 (digit-is c a.0).1) (numeral-is w (n * 10 + (c - 48)) a.1)

module _ {s : List ℕ} {at n x : ℕ} (r : FiguresAt s at n x) (some : n ≡ 0 → ⊥) (few : n ≤ 19) where
  run-decimal : (signed : Bool) (w : ℕ) (negative : Bool) → in_range signed w (with_sign negative x) ≡ true → decimal signed w negative (take n (drop at s)) ≡ good (with_sign negative x)
  unfolding ranged
  run-decimal signed w negative h =
      let l : length (take n (drop at s)) ≡ n = figures-length r in
      decimal-parts signed w negative (take n (drop at s))
      ∙ rw (between-yes 1 20 (length (take n (drop at s))) (omega (arith, l)) (omega (arith, l)), numeral-is (take n (drop at s)) 0 r.digits.all, ← r.number_is, h)

  run-itself : All Itself (take n (drop at s))
  run-itself = all-weaken _ Itself (take n (drop at s)) (λ c h. let i = digit-is c h in (λ e. omega arith, λ e. omega arith, λ e. omega arith)) r.digits.all

  pub run-in-text : (k : Integer) → x ≤ top k → InText (Whole (is_signed k) (width_of k)) s at (at + n) (with_sign false x ∷ [])
  unfolding text_elements integer_word with_sign
  run-in-text k h =
      let w : List ℕ = take n (drop at s) in
      record {
        word = w;
        spells = spells-run s at n r.digits.inside run-itself;
        elements =
            ap (every (integer_word (is_signed k) (size k))) (words-one w (omega (arith, figures-length r), all-weaken _ _ w (λ c i. no-white c (omega (arith, digit-is c i))) r.digits.all))
            ∙ every_one _ w (pos x)
            (ap (refused_as fault_number)
            (plain-read (is_signed k) (size k) w (are-digits w r.digits.all) (omega (arith, figures-length r)) ∙ run-decimal (is_signed k) (size k) false (up_in k x h)));
      }

-- after a minus
minus-in-text : {s : List ℕ} {at n x : ℕ} (k : Integer) → is_signed k ≡ true → at < length s → get_or s at 0 ≡ 45 → FiguresAt s (at + 1) n x → (n ≡ 0 → ⊥) → n ≤ 19 → x ≤ top k
    → InText (Whole (is_signed k) (width_of k)) s at (at + 1 + n) (with_sign true x ∷ [])
unfolding text_elements integer_word
minus-in-text {s} {at} {n} {x} k signed l b r some few h =
    let w : List ℕ = take n (drop (at + 1) s) in
    let one = spells_one s at l (λ e. omega arith, λ e. omega arith, λ e. omega arith) in
    record {
      word = 45 ∷ w;
      spells = subst (λ (c : ℕ). Spells s at (at + 1 + n) (c ∷ w)) b (spells_then one (spells-run s (at + 1) n r.digits.inside (run-itself r some few)));
      elements =
          ap (every (integer_word (is_signed k) (size k)))
          (words-one (45 ∷ w) (omega arith, (no-white 45 (omega arith), all-weaken _ _ w (λ c i. no-white c (omega (arith, digit-is c i))) r.digits.all)))
          ∙ every_one _ (45 ∷ w) (with_sign true x)
          (ap (refused_as fault_number)
          (ap (λ (g : Bool). read_integer g (size k) (45 ∷ w)) signed ∙ after_minus (size k) w ∙ ap (λ (g : Bool). decimal g (size k) true w) (sym signed)
          ∙ run-decimal r some few (is_signed k) (size k) true (minus-in k x signed h)));
    }

-- either way
pub integer-in-text : {s : List ℕ} {at first n x : ℕ} (k : Integer) → AfterMinus (is_signed k) s at first → FiguresAt s first n x → (n ≡ 0 → ⊥) → n ≤ 19 → x ≤ top k
    → InText (Whole (is_signed k) (width_of k)) s at (first + n) (with_sign (not (eqb first at)) x ∷ [])
integer-in-text {at = at} k no_minus r some few h = rw (eq-eqb at at refl) (run-in-text r some few k h)
integer-in-text {at = at} k (a-minus signed l b) r some few h = rw (ne_eqb (at + 1) at (λ e. omega arith)) (minus-in-text k signed l b r some few h)

pub after-le : {signed : Bool} {s : List ℕ} {at first : ℕ} → AfterMinus signed s at first → (at ≤ first) × (first ≤ at + 1)
after-le no_minus = (omega arith, omega arith)
after-le (a-minus signed l b) = (omega arith, omega arith)

-- ---- at most three digits

abbrev alike : Bool → Bool → Bool
alike true b = b
alike false b = not b

alike_is : (a b : Bool) → alike a b ≡ true → a ≡ b
alike_is true true e = refl
alike_is true false e = absurd (false≢true e)
alike_is false true e = absurd (false≢true e)
alike_is false false e = refl

figures-one : {s : List ℕ} {at x : ℕ} → at < length s → is_digit (get_or s at 0) ≡ true → x ≡ bit_xor (get_or s at 0) 48 → FiguresAt s at 1 x
unfolding of_digits figures
figures-one {s} {at} h d e =
    let i = digit-is (get_or s at 0) d in
    let one : take 1 (drop at s) ≡ get_or s at 0 ∷ [] = ap (take 1) (next1 s at h) in
    record {
      digits = record { inside = omega arith; all = subst (All (λ (c : ℕ). is_digit c ≡ true)) (sym one) (d, tt) };
      number_is = e ∙ figure-is 10 (get_or s at 0) (omega arith) (i.0, omega (arith, i.1)) ∙ sym (ap (λ (w : List ℕ). of_digits 10 0 (figures w)) one ∙ omega arith);
    }

-- the count and the number are what the code picks
pub figures-three : (s : List ℕ) (at : ℕ) (two three : Bool) {a b c inner x few n : ℕ} → at + 3 ≤ length s
    → is_digit (get_or s at 0) ≡ true → two ≡ is_digit (get_or s (at + 1) 0) → three ≡ is_digit (get_or s (at + 2) 0)
    → a ≡ bit_xor (get_or s at 0) 48 → b ≡ bit_xor (get_or s (at + 1) 0) 48 → c ≡ bit_xor (get_or s (at + 2) 0) 48
    → inner ≡ cond three ((a * 10 + b) * 10 + c) (a * 10 + b) → x ≡ cond two inner a → few ≡ cond three 3 2 → n ≡ cond two few 1
    → FiguresAt s at n x × (n ≤ 3)
figures-three s at false three h d e f a b c i x m n = (subst₂ (FiguresAt s at) (sym n) (sym x) (figures-one (omega arith) d a), omega (arith, n))
figures-three s at true false h d e f a b c i x m n =
    (figures-then (figures-one (omega arith) d a) (figures-one (omega arith) (sym e) b) refl (n ∙ m) (x ∙ i), omega (arith, n, m))
figures-three s at true true h d e f a b c i x m n =
    (figures-then (figures-then (figures-one (omega arith) d a) (figures-one (omega arith) (sym e) b) refl refl refl) (figures-one (omega arith) (sym f) c) refl (n ∙ m) (x ∙ i), omega (arith, n, m))

pub digit-test : (c : ℕ) → c < 256 → ltb (bit_xor c 48) 10 ≡ is_digit c
unfolding is_digit between
digit-test c h = by (each_below (λ (c : ℕ). alike (ltb (bit_xor c 48) 10) (between 48 57 c)) 256 refl c h)
  where
    by : alike (ltb (bit_xor c 48) 10) (between 48 57 c) ≡ true → ltb (bit_xor c 48) 10 ≡ between 48 57 c
    by = alike_is (ltb (bit_xor c 48) 10) (between 48 57 c)
