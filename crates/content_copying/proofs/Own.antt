-- Words that are the shortest of their integers: digits that do not begin with a 0 are the digits of their number, and few of them are in range.
use Prim.Native.Nat.{◌%◌, ◌*◌, ◌+◌, ◌-◌, ◌/◌, ◌<◌, ◌^◌, ◌≤◌, suc, zero, ℕ}
use native.Mathlib.Nat.{add-zero, pow-le-pow_right}
use native.Mathlib.Numerals.{add-one}
use native.Mathlib.Omega.{arith}
use mathlib.Core.Bool.{Bool, false, true}
use mathlib.Core.List.{List, [], ◌++◌, ◌∷◌, append_assoc, append-nil, map}
use mathlib.Core.Path.{◌∙◌, ◌≡◌, ap, ap₂, refl, subst, sym}
use lib.Bits.{bit_and, bit_or, bit_xor}
use lib.Dec.{lit<, lit≤}
use lib.IntN.{pos}
use lib.ListN.{drop, get_or, length, length-drop, set, take}
use lib.Seq.{drop-cons, get_or-drop, get_or-take, length-take-le}
use Rattle.content_reading.proofs.Runs.{pass-long}
use Rattle.content_reading.specs.Passing.{PassTo}
use Rattle.integer_reading.specs.Figures.{is_digit}
use Rattle.content_copying.specs.Wording.{InRange, Numeral, OwnWord, WordCopied}
use Rattle.integer_reading.proofs.Lanes.{both, differing, either, eight, marked, own, rest, sum, tops}
use Rattle.content_copying.proofs.Quick.{quick-in-text}
use Rattle.integer_reading.specs.Figures.{figures}
use Rattle.content_showing.proofs.Stores.{puts-byte}
use Rattle.eights.specs.Marks.{mark}
use Rattle.moving.proofs.Puts.{puts-as, puts_then}
use Rattle.moving.specs.Puts.{Puts}
use Rattle.number.proofs.Decimal.{more-digits, one-digit}
use Rattle.number.proofs.Laws.{IsDigit, digit_lt, plain-read, value-lt}
use Rattle.number.specs.Clauses.{is_signed, size}
use Rattle.number.specs.Number.{decimal, digit, digits, numeral, of_digits, ranged, read_integer, shortest, with_sign}
use Rattle.number.specs.declared.Integer.{Integer}
use Rattle.table.proofs.Laws.{all-weaken, between_is, between-yes, holds_at}
use Rattle.table.specs.All.{All, AreBytes}
use Rattle.table.specs.Bytes.{between}
use Rattle.table.specs.Result.{good}
use Rattle.table.specs.Shape.{in_range}
use Rattle.words.proofs.QuickLaws.{minus-in}
use Rattle.words.proofs.WordLaws.{after_minus, decimal-parts, up_in}
use Rattle.words.specs.Clauses.{IsPlain, top}

-- ---- which of eight bytes are digits

pub digits-marked : (ds : List ℕ) → length ds ≡ 8 → AreBytes ds → (x : ℕ) → x ≡ of_digits 256 0 ds
    → bit_and (bit_or (bit_and (bit_xor x 3472328296227680304) 9187201950435737471 + 8536140394893047414) (bit_xor x 3472328296227680304)) 9259542123273814144 ≡ of_digits 256 0
    (map (mark is_digit) ds)
unfolding of_digits mark is_digit between
digits-marked ds l a x e =
    let t = differing ds l a (own ds l a e) (eight ds l a 48 refl (lit< tt)) in
    marked ds l a is_digit (both ds l a (either ds l a (sum ds l a (both ds l a t (rest ds l a)) (eight ds l a 118 refl (lit< tt)) refl) t) (tops ds l a)) refl

-- ---- digits and their number

abbrev AreDigits : List ℕ → Type 0
AreDigits w = All (λ (c : ℕ). is_digit c ≡ true) w

digit-is : (c : ℕ) → is_digit c ≡ true → IsDigit c
unfolding is_digit
digit-is c h = between_is 48 57 c h

numeral-is : (n : ℕ) (w : List ℕ) → AreDigits w → numeral digit 10 n w ≡ good (of_digits 10 n (figures w))
unfolding numeral digit of_digits figures is_digit
numeral-is n [] a = refl
numeral-is n (c ∷ w) a = rw a.0 (numeral-is (n * 10 + (c - 48)) w a.1)

number_lt : (w : List ℕ) → AreDigits w → of_digits 10 0 (figures w) < 10 ^ length w
number_lt w a = omega (arith, holds_at (value-lt digit 10 digit_lt 0 w) (numeral-is 0 w a))

-- the first of a run
pub first-large : {s : List ℕ} {from next : ℕ} → PassTo is_digit s from next → from < next → (get_or s from 0 ≡ 48 → ⊥) → 49 ≤ get_or s from 0
first-large {s} {from} {next} p h other =
    let n : next - from ≡ suc (next - from - 1) = omega arith in
    let l : take (next - from) (drop from s) ≡ get_or s from 0 ∷ take (next - from - 1) (drop (suc from) s) =
    ap₂ (λ (m : ℕ) (t : List ℕ). take m t) n (drop-cons s from 0 (omega (arith, p.high))) in
    let a : AreDigits (get_or s from 0 ∷ take (next - from - 1) (drop (suc from) s)) = subst AreDigits l p.passing in
    omega (arith, digit-is (get_or s from 0) a.0, other)

-- behind a number that is not 0
more-own : (f n : ℕ) (w : List ℕ) → 1 ≤ n → AreDigits w → digits (f + length w) (of_digits 10 n (figures w)) ≡ digits f n ++ w
unfolding of_digits figures
more-own f n [] h a = ap (λ (k : ℕ). digits k n) (add-zero f) ∙ sym (append-nil (digits f n))
more-own f n (c ∷ w) h a =
    let d = digit-is c a.0 in
    let m : ℕ = n * 10 + (c - 48) in
    let up : m / 10 ≡ n = omega (arith, d) in
    let low : m % 10 + 48 ≡ c = omega (arith, d) in
    let k : f + suc (length w) ≡ suc f + length w = omega arith in
    ap (λ (j : ℕ). digits j (of_digits 10 m (figures w))) k
    ∙ more-own (suc f) m w (omega arith) a.1
    ∙ ap (λ (t : List ℕ). t ++ w) (more-digits f m (omega arith) ∙ ap₂ (λ (x y : ℕ). digits f x ++ (y ∷ [])) up low)
    ∙ append_assoc (digits f n) (c ∷ []) w

own-digits : (w : List ℕ) → AreDigits w → 1 ≤ length w → length w ≤ 20 → (2 ≤ length w → 49 ≤ get_or w 0 0) → digits 20 (of_digits 10 0 (figures w)) ≡ w
unfolding of_digits figures
own-digits [] a h k g = absurd (omega arith)
own-digits (c ∷ []) a h k g =
    let d = digit-is c a.0 in
    let x : 0 * 10 + (c - 48) ≡ c - 48 = omega arith in
    let y : c - 48 + 48 ≡ c = omega (arith, d) in
    ap (digits 20) x ∙ one-digit 19 (c - 48) (omega (arith, d)) ∙ ap {B = List ℕ} (λ (b : ℕ). b ∷ []) y
own-digits (c ∷ b ∷ w) a h k g =
    let d = digit-is c a.0 in
    let big : 49 ≤ c = g (omega arith) in
    let x : 0 * 10 + (c - 48) ≡ c - 48 = omega arith in
    let y : c - 48 + 48 ≡ c = omega (arith, d) in
    let f : ℕ = 18 - length w in
    let room : 20 ≡ suc f + suc (length w) = omega arith in
    ap₂ (λ (j n : ℕ). digits j (of_digits 10 n (figures (b ∷ w)))) room x
    ∙ more-own (suc f) (c - 48) (b ∷ w) (omega arith) a.1
    ∙ ap (λ (t : List ℕ). t ++ (b ∷ w)) (one-digit f (c - 48) (omega (arith, d)) ∙ ap {B = List ℕ} (λ (e : ℕ). e ∷ []) y)

-- ---- a word of digits

plain-digits : (w : List ℕ) → AreDigits w → All IsPlain w
plain-digits w a = all-weaken _ IsPlain w (λ c h. let d = digit-is c h in (omega (arith, d.0), d.1)) a

module _ {s : List ℕ} {from most next : ℕ} (r : Numeral s from most next) where
  abbrev word : List ℕ
  word = take (next - from) (drop from s)

  abbrev number : ℕ
  number = of_digits 10 0 (figures word)

  long : length word ≡ next - from
  long = pass-long r.run

  begins : get_or word 0 0 ≡ get_or s from 0
  begins = get_or-take (next - from) (drop from s) 0 0 (omega (arith, r.some)) ∙ get_or-drop from s 0 0 ∙ ap (λ (i : ℕ). get_or s i 0) (add-zero from)

  module _ (k : Integer) (q : InRange k most) where
    own-run : digits 20 number ≡ word
    own-run = own-digits word r.run.passing (omega (arith, long, r.some)) (omega (arith, long, r.few, q.few)) (λ h. omega (arith, begins, r.first (omega (arith, long))))

    small : number ≤ top k
    small =
        let p : 10 ^ length word ≤ 10 ^ most = pow-le-pow_right (lit< tt) (omega (arith, long, r.few)) in
        omega (arith, number_lt word r.run.passing, q.range)

    decimal-run : (negative : Bool) → in_range (is_signed k) (size k) (with_sign negative number) ≡ true
        → decimal (is_signed k) (size k) negative word ≡ good (with_sign negative number)
    unfolding ranged
    decimal-run negative h =
        let sized = between-yes 1 20 (length word) (omega (arith, long, r.some)) (omega (arith, long, r.few, q.few)) in
        decimal-parts (is_signed k) (size k) negative word ∙ rw (sized, numeral-is 0 word r.run.passing, h)

    pub own-up : OwnWord k s from next
    unfolding with_sign shortest
    own-up = record {
      z = pos number;
      reads = quick-in-text {k = k}
          (record {
            later = r.some;
            within = r.run.high;
            plain = plain-digits word r.run.passing;
            reads = plain-read (is_signed k) (size k) word (all-weaken _ _ word (λ c h. digit-is c h) r.run.passing) (omega (arith, long, r.some)) ∙ decimal-run false (up_in k number small);
          });
      own = sym own-run;
      some = r.some;
      few = omega (arith, r.few, q.few);
    }

-- ---- and one after a minus

minus-shown : (n : ℕ) (w : List ℕ) → digits 20 n ≡ w → 49 ≤ get_or w 0 0 → 45 ∷ w ≡ shortest (with_sign true n)
unfolding with_sign shortest digits
minus-shown zero w e h = let zero-first : 48 ≡ get_or w 0 0 = ap (λ (t : List ℕ). get_or t 0 0) e in absurd (omega arith)
minus-shown (suc n) w e h = ap (λ (t : List ℕ). 45 ∷ t) (sym e)

module _ {s : List ℕ} {at most next : ℕ} (r : Numeral s (at + 1) most next) (inside : at < length s) (minus : get_or s at 0 ≡ 45) (first : 49 ≤ get_or s (at + 1) 0) where
  minus-word : take (next - at) (drop at s) ≡ 45 ∷ word r
  minus-word =
      let one : next - at ≡ suc (next - (at + 1)) = omega (arith, r.some) in
      rw (one, drop-cons s at 0 inside, minus, add-one at)

  pub own-down : (k : Integer) → InRange k most → is_signed k ≡ true → OwnWord k s at next
  own-down k q g =
      record {
        z = with_sign true (number r);
        reads = quick-in-text {k = k}
            (record {
              later = omega (arith, r.some);
              within = r.run.high;
              plain = rw minus-word ((lit≤ tt, lit≤ tt), plain-digits (word r) r.run.passing);
              reads = rw minus-word
                  (ap (λ (signed : Bool). read_integer signed (size k) (45 ∷ word r)) g
                  ∙ after_minus (size k) (word r)
                  ∙ ap (λ (signed : Bool). decimal signed (size k) true (word r)) (sym g)
                  ∙ decimal-run r k q true (minus-in k (number r) g (small r k q)));
            });
        own = minus-word ∙ minus-shown (number r) (word r) (own-run r k q) (omega (arith, begins r));
        some = omega (arith, r.some);
        few = omega (arith, r.few, q.few);
      }

-- ---- copied, and a space behind it

module _ {k : Integer} {s : List ℕ} {at next : ℕ} (w : OwnWord k s at next) {row new : List ℕ} {o e : ℕ} (q : Puts row o (take (next - at) (drop at s)) new e) where
  pub copied-place : e ≡ o + (next - at)
  copied-place = omega (arith, q.next-is, length-take-le (next - at) (drop at s) (simp length-drop (omega (arith, w.reads.spells.inside))))

  pub own-copied : e < length new → WordCopied k s at row o (set new e 32) next (e + 1)
  own-copied h = record {
    z = w.z;
    reads = w.reads;
    puts = puts-as (ap (λ (t : List ℕ). t ++ (32 ∷ [])) w.own) (puts_then q (puts-byte new e 32 (omega arith)));
  }
