-- Runs of plain digits: one more, or the end; and what a run reads as, alone and after a minus. So where the quick way answers, it answers as
-- the careful way does (quick-at), and what it answers is said by its run (run_none, run-over, run_value).
use Prim.Native.Nat.{◌*◌, ◌+◌, ◌-◌, ◌<◌, ◌^◌, ◌≤◌, suc, zero, zero-le, ℕ}
use native.Mathlib.Nat.{le_trans, pow-le-pow_right, min-le_left}
use native.Mathlib.Numerals.{add-one}
use native.Mathlib.Omega.{arith}
use mathlib.Core.Bool.{Bool, false, true}
use mathlib.Core.List.{List, [], ◌∷◌}
use mathlib.Core.Path.{◌∙◌, ◌≡◌, ap, refl, sym}
use lib.Dec.{eqb, lit<, lit≤, ltb}
use lib.IntN.{neg_ℤ, pos, ℤ}
use lib.ListN.{drop, drop_of_length-le, get_or, length, length-drop, length-take, take}
use lib.Seq.{drop-cons, get_or-drop, length-take-le, take-suc}
use borrow.Author.Tests.{eq-eqb, eqb-false, eqb-true, le-ltb, lt-ltb, ltb-false, ne_eqb}
use Rattle.number.proofs.Laws.{IsDigit, digit_lt, numeral-append, plain-read, value-lt}
use Rattle.words.proofs.WordLaws.{after_minus, decimal-parts, down-in, up_in}
use Rattle.number.specs.Clauses.{is_signed, size}
use Rattle.words.specs.Clauses.{DigitsAt, IsPlain, QuickAt, leading_digits, quick_number, quick_run, quickly, top}
use Rattle.number.specs.Number.{Fault, decimal, digit, numeral, ranged, read_integer, with_sign}
use Rattle.table.proofs.Laws.{all-weaken, between_is, between-yes, cond_cases, holds_at}
use Rattle.table.specs.All.{All}
use Rattle.table.specs.Bytes.{between}
use Rattle.table.specs.Result.{Result, bad, good}
use Rattle.std.specs.Prelude.{None, Option, Some}
use Rattle.table.specs.Shape.{in_range}
use Rattle.number.specs.declared.Integer.{Integer}

-- ---- a run

pub leading_le : (n : ℕ) (s : List ℕ) → (leading_digits n s ≤ n) × (leading_digits n s ≤ length s)
unfolding leading_digits
leading_le zero s = (zero-le, zero-le)
leading_le (suc n) [] = (zero-le, zero-le)
leading_le (suc n) (b ∷ s) =
    cond_cases (λ (k : ℕ). (k ≤ suc n) × (k ≤ suc (length s))) (between 48 57 b) (suc (leading_digits n s)) 0
    (λ _. (omega (arith, leading_le n s), omega (arith, leading_le n s))) (λ _. (zero-le, zero-le))

pub leading-all : (n : ℕ) (s : List ℕ) → All IsDigit (take (leading_digits n s) s)
unfolding leading_digits
leading-all zero s = tt
leading-all (suc n) [] = tt
leading-all (suc n) (b ∷ s) =
    cond_cases (λ (k : ℕ). All IsDigit (take k (b ∷ s))) (between 48 57 b) (suc (leading_digits n s)) 0
    (λ e. (between_is 48 57 b e, leading-all n s)) (λ _. tt)

-- at a place: nothing is left, no digit is there, or a digit is
module _ (s : List ℕ) (i : ℕ) where
  pub leading-zero : leading_digits 0 (drop i s) ≡ 0
  unfolding leading_digits
  leading-zero = refl

  pub leading-out : (n : ℕ) → length s ≤ i → leading_digits n (drop i s) ≡ 0
  leading-out n h = rw (drop_of_length-le s h) (none n)
    where
      none : (n : ℕ) → leading_digits n [] ≡ 0
      none n = omega (arith, leading_le n [])

  pub leading-stop : (n : ℕ) → i < length s → between 48 57 (get_or s i 0) ≡ false → leading_digits n (drop i s) ≡ 0
  unfolding leading_digits
  leading-stop zero h e = refl
  leading-stop (suc n) h e = rw (drop-cons s i 0 h, e)

  pub leading-go : (n : ℕ) → i < length s → between 48 57 (get_or s i 0) ≡ true → leading_digits (suc n) (drop i s) ≡ suc (leading_digits n (drop (i + 1) s))
  unfolding leading_digits
  leading-go n h e = rw (drop-cons s i 0 h, e, add-one i)

-- ---- the loop: what is behind, and what is still to come

module _ (s : List ℕ) (place i x : ℕ) (begun : place ≤ i) (so_far : numeral digit 10 0 (take (i - place) (drop place s)) ≡ good x) where
  -- a digit more
  pub number_more : i < length s → (d : ℕ) → digit (get_or s i 0) ≡ good d
      → numeral digit 10 0 (take (i + 1 - place) (drop place s)) ≡ good (x * 10 + d)
  unfolding numeral
  number_more h d e =
      let one : i + 1 - place ≡ suc (i - place) = omega arith in
      let here : place + (i - place) ≡ i = omega arith in
      ap (λ (n : ℕ). numeral digit 10 0 (take n (drop place s))) one
      ∙ ap (numeral digit 10 0) (take-suc (drop place s) (i - place) 0 (simp length-drop (omega arith)))
      ∙ numeral-append digit 10 0 (take (i - place) (drop place s)) (get_or (drop place s) (i - place) 0 ∷ [])
      ∙ rw (so_far, get_or-drop place s (i - place) 0, here, e)

  pub number_lt : i ≤ place + 18 → x < 10 ^ 18
  number_lt h =
      let few : length (take (i - place) (drop place s)) ≤ 18 = rw (length-take (i - place) (drop place s)) (le_trans (min-le_left (i - place) (length (drop place s))) (omega arith)) in
      let p : 10 ^ length (take (i - place) (drop place s)) ≤ 10 ^ 18 = pow-le-pow_right (lit< tt) few in
      omega (arith, holds_at (value-lt digit 10 digit_lt 0 (take (i - place) (drop place s))) so_far)

  -- the end
  pub leading_end : i + leading_digits (place + 18 - i) (drop i s) ≡ place + leading_digits 18 (drop place s) → leading_digits (place + 18 - i) (drop i s) ≡ 0 → DigitsAt s place x i
  leading_end all none =
      let whole : leading_digits 18 (drop place s) ≡ i - place = omega arith in
      record { next-is = omega arith; number_is = rw whole so_far }

-- ---- what a run reads as

plain-digits : (s : List ℕ) → All IsDigit s → All IsPlain s
plain-digits s h = all-weaken IsDigit IsPlain s (λ b d. (omega (arith, d.0), d.1)) h

-- the characters of a run, from its record
module _ (s : List ℕ) (place number next : ℕ) (at_most : place ≤ length s) (r : DigitsAt s place number next) (some : next ≡ place → ⊥) where
  leading-is : next - place ≡ leading_digits 18 (drop place s)
  leading-is = omega (arith, r.next-is)

  leading-more : place < next
  leading-more = omega (arith, r.next-is)

  leading-within : next ≤ length s
  leading-within = omega (arith, r.next-is, (leading_le 18 (drop place s)).1, length-drop place s)

  leading_length : length (take (leading_digits 18 (drop place s)) (drop place s)) ≡ leading_digits 18 (drop place s)
  leading_length = length-take-le (leading_digits 18 (drop place s)) (drop place s) (leading_le 18 (drop place s)).1

  leading-decimal : (signed : Bool) (w : ℕ) (negative : Bool) → in_range signed w (with_sign negative number) ≡ true
      → decimal signed w negative (take (leading_digits 18 (drop place s)) (drop place s)) ≡ good (with_sign negative number)
  unfolding ranged
  leading-decimal signed w negative h =
      let few = (leading_le 18 (drop place s)).0 in
      let l = leading_length in
      let sized = between-yes 1 20 (length (take (leading_digits 18 (drop place s)) (drop place s))) (omega (arith, l, leading-is, leading-more)) (omega (arith, l, few)) in
      decimal-parts signed w negative (take (leading_digits 18 (drop place s)) (drop place s)) ∙ rw (sized, r.number_is, h)

  pub quick-up : (k : Integer) → number ≤ top k → QuickAt k s place (pos number) next
  unfolding with_sign
  quick-up k h = record {
    later = leading-more;
    within = leading-within;
    plain = rw leading-is (plain-digits (take (leading_digits 18 (drop place s)) (drop place s)) (leading-all 18 (drop place s)));
    reads = rw leading-is
        (plain-read (is_signed k) (size k) (take (leading_digits 18 (drop place s)) (drop place s)) (leading-all 18 (drop place s)) (omega (arith, leading_length, leading-is, leading-more))
        ∙ leading-decimal (is_signed k) (size k) false (up_in k number h));
  }

-- after a minus
pub minus-in : (k : Integer) (n : ℕ) → is_signed k ≡ true → n ≤ top k → in_range (is_signed k) (size k) (with_sign true n) ≡ true
unfolding with_sign
minus-in k zero g h = up_in k 0 zero-le
minus-in k (suc n) g h = down-in k n g (omega arith)

module _ (s : List ℕ) (place number next : ℕ) (minus : place < length s) (is-minus : get_or s place 0 ≡ 45) (r : DigitsAt s (place + 1) number next) (some : next ≡ place + 1 → ⊥) where
  minus-word : take (next - place) (drop place s) ≡ 45 ∷ take (leading_digits 18 (drop (place + 1) s)) (drop (place + 1) s)
  minus-word =
      let one : next - place ≡ suc (leading_digits 18 (drop (place + 1) s)) = omega (arith, r.next-is) in
      rw (one, drop-cons s place 0 minus, is-minus, add-one place)

  pub quick-down : (k : Integer) → is_signed k ≡ true → number ≤ top k → QuickAt k s place (neg_ℤ (pos number)) next
  unfolding with_sign
  quick-down k g h =
      let ds : List ℕ = take (leading_digits 18 (drop (place + 1) s)) (drop (place + 1) s) in
      record {
        later = omega (arith, r.next-is);
        within = leading-within s (place + 1) number next (omega arith) r some;
        plain = rw minus-word ((lit≤ tt, lit≤ tt), plain-digits ds (leading-all 18 (drop (place + 1) s)));
        reads = rw minus-word
            (ap (λ (signed : Bool). read_integer signed (size k) (45 ∷ ds)) g
            ∙ after_minus (size k) ds
            ∙ ap (λ (signed : Bool). decimal signed (size k) true ds) (sym g)
            ∙ leading-decimal s (place + 1) number next (omega arith) r some (is_signed k) (size k) true (minus-in k number g h));
      }

-- ---- the quick way, by its run

module _ (s : List ℕ) (place number next : ℕ) (r : DigitsAt s place number next) (k : Integer) (negative : Bool) where
  run_is : quick_run k negative s place ≡ quick_number k negative place (leading_digits 18 (drop place s)) (good number)
  unfolding quick_run
  run_is = ap (quick_number k negative place (leading_digits 18 (drop place s))) r.number_is

  pub run_none : next ≡ place → quick_run k negative s place ≡ None
  run_none e = run_is ∙ rw (eq-eqb (leading_digits 18 (drop place s)) 0 (omega (arith, r.next-is)))

  module _ (some : next ≡ place → ⊥) where
    pub run-over : top k < number → quick_run k negative s place ≡ None
    run-over h = run_is ∙ rw (ne_eqb (leading_digits 18 (drop place s)) 0 (λ e. some (omega (arith, r.next-is))), lt-ltb (top k) number h)

    pub run_value : number ≤ top k → quick_run k negative s place ≡ Some (with_sign negative number, next)
    run_value h =
        run_is ∙ rw (ne_eqb (leading_digits 18 (drop place s)) 0 (λ e. some (omega (arith, r.next-is))), le-ltb (top k) number h, r.next-is)

-- which run it is: with no minus the one at the place, after a minus the one behind it, which only a kind with a sign has
module _ (k : Integer) (s : List ℕ) (place : ℕ) where
  pub quick-plain : (get_or s place 0 ≡ 45 → ⊥) → quickly k s place ≡ quick_run k false s place
  unfolding quickly
  quick-plain h = rw (ne_eqb (get_or s place 0) 45 h)

  module _ (minus : get_or s place 0 ≡ 45) where
    pub quick-unsigned : is_signed k ≡ false → quickly k s place ≡ None
    unfolding quickly
    quick-unsigned g = rw (eq-eqb (get_or s place 0) 45 minus, g)

    pub quick-minus : is_signed k ≡ true → quickly k s place ≡ quick_run k true s (place + 1)
    unfolding quickly
    quick-minus g = rw (eq-eqb (get_or s place 0) 45 minus, g)

-- the run that an answer is of
record RunAt (k : Integer) (negative : Bool) (s : List ℕ) (place : ℕ) (z : ℤ) (next : ℕ) : Type 0 where
  number : ℕ
  digits : DigitsAt s place number next
  some : next ≡ place → ⊥
  small : number ≤ top k
  value : z ≡ with_sign negative number

run_at : (k : Integer) (negative : Bool) (s : List ℕ) (place : ℕ) (z : ℤ) (next : ℕ) → quick_run k negative s place ≡ Some (z, next) → RunAt k negative s place z next
unfolding quick_run
run_at k negative s place z next = go (numeral digit 10 0 (take (leading_digits 18 (drop place s)) (drop place s))) refl
  where
    count : ℕ
    count = leading_digits 18 (drop place s)

    Says : Option (ℤ × ℕ) → Type 0
    Says q = q ≡ Some (z, next) → RunAt k negative s place z next

    declined : Says None
    declined e = let no : ◌≡◌ {A = ℕ} 0 1 = cc in absurd (omega arith)

    go : (r : Result Fault ℕ) → numeral digit 10 0 (take (leading_digits 18 (drop place s)) (drop place s)) ≡ r → Says (quick_number k negative place (leading_digits 18 (drop place s)) r)
    go (bad f) q = declined
    go (good n) q =
        cond_cases Says (eqb count 0) _ _ (λ _. declined) (λ filled. cond_cases Says (ltb (top k) n) _ _ (λ _. declined) (λ within e.
        let both : ◌≡◌ {A = ℤ × ℕ} (with_sign negative n, place + count) (z, next) = cc in
        let at-end : next ≡ place + count = sym (ap (λ (p : ℤ × ℕ). p.1) both) in record {
          number = n;
          digits = record { next-is = at-end; number_is = q };
          some = λ none. eqb-false count 0 filled (omega arith);
          small = ltb-false (top k) n within;
          value = sym (ap (λ (p : ℤ × ℕ). p.0) both);
        }))

-- where the quick way answers, it answers as the careful way does
pub quick-at : (k : Integer) (s : List ℕ) (place : ℕ) → place < length s → (z : ℤ) (next : ℕ) → quickly k s place ≡ Some (z, next) → QuickAt k s place z next
unfolding quickly with_sign
quick-at k s place inside z next = cond_cases Says (eqb (get_or s place 0) 45) _ _
    (λ minus. cond_cases Says (is_signed k) _ _ (λ signed e. let r = run_at k true s (place + 1) z next e in
    rw r.value (quick-down s place r.number next inside (eqb-true (get_or s place 0) 45 minus) r.digits r.some k signed r.small))
    (λ _ e. let no : ◌≡◌ {A = ℕ} 0 1 = cc in absurd (omega arith)))
    (λ _ e. let r = run_at k false s place z next e in
    rw r.value (quick-up s place r.number next (omega arith) r.digits r.some k r.small))
  where
    Says : Option (ℤ × ℕ) → Type 0
    Says q = q ≡ Some (z, next) → QuickAt k s place z next
