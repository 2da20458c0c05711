-- Words of each kind are read exactly: integers, truths, bits; and a text is split into the words that the grammar sees in it.
use Prim.Native.Nat.{◌*◌, ◌+◌, ◌-◌, ◌<◌, ◌^◌, ◌≤◌, suc, zero, ℕ}
use native.Mathlib.Nat.{le_refl, mul-one, pow-le-pow_right, pow-succ', pow-zero}
use native.Mathlib.Numerals.{add-one}
use native.Mathlib.Omega.{arith}
use mathlib.Core.Bool.{Bool, ◌&&◌, ◌||◌, and-false, cond, false, false≢true, true}
use mathlib.Core.List.{List, [], ◌++◌, ◌∷◌, append-nil, map}
use mathlib.Core.Path.{◌∙◌, ◌≡◌, ap, ap₂, refl, subst, subst₂, sym}
use lib.Arith.{digits_lt}
use lib.Dec.{eqb, lit<, lit≤, ltb}
use lib.IntN.{negsuc, pos, ℤ}
use lib.ListN.{length, length-append}
use borrow.Author.Tests.{eq-eqb, eqb-false, eqb-true, le-leb, le-ltb, lt-leb, lt-ltb, ltb-false, ltb-true, ne_eqb}
use Rattle.grammar.proofs.Fronts.{digit-is, digit-read, fails-then, hexadigit-is, hexadigit-read, numeral-all, numeral-some, sized-is, sized-read}
use Rattle.grammar.specs.Words.{AnyCapitals, AnyCase, BitLetters, DecimalWord, Digit, FirstBad, Hexadigit, IntegerWord, Numeral, OutsideWord, Spaced, Stands, TruthLetter, TruthWord}
use Rattle.grammar.specs.Words.{White, as-capital, as-small, bad_last, bad-later, bad-then, bits-0, bits-1, bits-end, capitals-end, capitals-then}
use Rattle.grammar.specs.Words.{decimal-minus, decimal-plain, decimal-plus, figure, hex-capital, hex-figure}
use Rattle.grammar.specs.Words.{hex-small, letter-0, letter-1, letter-F, letter-T, letter-f, letter-t, one-digit, one_more, stands-negative, stands-positive}
use Rattle.grammar.specs.Words.{stands-unsigned, truth-false, truth-letter, truth-true, truth-unknown, white-end, white-then, word-hexadecimal}
use Rattle.grammar.specs.Words.{word-decimal, word-outside, words_last, words-none, words-then}
use Rattle.number.specs.Number.{Fault, Outside, Unwritten, decimal, digit, hexadecimal, hexadigit, of_pattern, ranged, read_integer, with_sign}
use Rattle.number.proofs.Laws.{digit-fails, hexadigit-fails, pow-16, sized-fails}
use Rattle.table.proofs.Words.{word_cut, words-one}
use Rattle.table.proofs.Bytes.{same-is}
use Rattle.table.proofs.Laws.{IsWord, NoWhite, and_both, between_is, cond_cases, fails-bind, fails-weaken, holds-bind, holds-cond, no-white, or-either, pieces-word}
use Rattle.table.specs.All.{All}
use Rattle.table.specs.Bytes.{between, bytes, is_white, not_empty, pieces, same, words}
use Rattle.table.specs.Result.{Fails, Holds, Result, ◌>>=◌, bad, every, fails, gives, good, holds, refuses}
use Rattle.table.specs.Shape.{half, in_range}
use Rattle.tabledata.specs.TableData.{bit_letter, lower, truth_letter, truth_word}

-- ---- integers

pub stands_read : {g : Bool} {w n : ℕ} {z : ℤ} → Stands g w n z → of_pattern g w n ≡ z
unfolding of_pattern
stands_read stands-unsigned = refl
stands_read (stands-positive {w = w} {n = n} h) = rw (lt-ltb n (half w) h)
stands_read (stands-negative {w = w} {n = n} {m = m} h e) = rw (le-ltb n (half w) (omega arith)) (ap negsuc (omega arith))

pub stands-is : (g : Bool) (w n : ℕ) → n < 256 ^ w → Stands g w n (of_pattern g w n)
unfolding of_pattern
stands-is false w n h = stands-unsigned
stands-is true w n h =
    cond_cases (λ (z : ℤ). Stands true w n z) (ltb n (half w)) (pos n) (negsuc (256 ^ w - 1 - n))
    (λ t. stands-positive (ltb-true n (half w) t)) (λ f. stands-negative (ltb-false n (half w) f) (omega arith))

-- a numeral of d digits is below the base to the d
pub numeral-lt : {Figure : ℕ → ℕ → Type 0} {base n : ℕ} {s : List ℕ} → ((b d : ℕ) → Figure b d → d < base) → Numeral Figure base s n → n < base ^ length s
numeral-lt {base} f (one-digit {b = b} {d = d} h) = let k : d < base = f b d h in rw (pow-succ', pow-zero, mul-one) k
numeral-lt {base} f (one_more {s = s} {n = n} {b = b} {d = d} m h) =
    let k : d < base = f b d h in
    let i : n < base ^ length s = numeral-lt f m in
    let e : n * base + d < base ^ length s * base = digits_lt i k in
    rw (length-append, add-one, pow-succ') (omega (arith, e))

hexadigit-small : (b d : ℕ) → Hexadigit b d → d < 16
hexadigit-small b n (hex-figure h) = omega arith
hexadigit-small b n (hex-capital h) = omega arith
hexadigit-small b n (hex-small h) = omega arith

hex-lt : (w : ℕ) {s : List ℕ} {n : ℕ} → Numeral Hexadigit 16 s n → length s ≤ 2 * w → n < 256 ^ w
hex-lt w {s} {n} m h =
    let p : 16 ^ length s ≤ 16 ^ (2 * w) = pow-le-pow_right (lit< tt) h in
    let q : n < 16 ^ length s = numeral-lt hexadigit-small m in
    omega (arith, pow-16 w)

-- a digit's byte
abbrev IsFigure : ℕ → Type 0
IsFigure b = (48 ≤ b) × (b ≤ 57)

digit-byte : (b d : ℕ) → Digit b d → IsFigure b
digit-byte b n (figure h) = (omega arith, omega arith)

module _ (signed : Bool) (w : ℕ) where
  plain-read : (s : List ℕ) → All IsFigure s → 1 ≤ length s → read_integer signed w s ≡ decimal signed w false s
  unfolding read_integer
  plain-read [] a h = absurd (omega arith)
  plain-read (b ∷ []) a h = refl
  plain-read (b ∷ c ∷ s) a h =
      rw (ne_eqb c 120 (λ e. omega (arith, a.1.0, e)), and-false, ne_eqb b 45 (λ e. omega (arith, a.0, e)), and-false, ne_eqb b 43 (λ e. omega (arith, a.0, e)), and-false)

  sign_read : (b : ℕ) (negative : Bool) (s : List ℕ) → 1 ≤ length s → eqb b 48 ≡ false → cond (signed && eqb b 45) true (signed && eqb b 43) ≡ true
      → (signed && eqb b 45) ≡ negative → read_integer signed w (b ∷ s) ≡ decimal signed w negative s
  unfolding read_integer
  sign_read b negative [] h z t e = absurd (omega arith)
  sign_read b true (c ∷ s) h z t e = rw (z, e)
  sign_read b false (c ∷ s) h z t e = rw (z, e, rw e at t)

  -- what is written as an integer is read as its value, where that is in the range
  decimal-read : (negative : Bool) {s : List ℕ} {n : ℕ} → Numeral Digit 10 s n → length s ≤ 20 → decimal signed w negative s ≡ ranged signed w (with_sign negative n)
  unfolding decimal
  decimal-read negative m h = rw (sized-read digit Digit 10 digit-read digit-is 20 m h)

  written_read : {s : List ℕ} {z : ℤ} → DecimalWord signed s z → read_integer signed w s ≡ ranged signed w z
  unfolding with_sign
  written_read (decimal-plain {s = s} m h) = plain-read s (numeral-all IsFigure digit-byte m) (numeral-some m) ∙ decimal-read false m h
  written_read (decimal-plus {s = s} e m h) = sign_read 43 false s (numeral-some m) refl (rw e) (rw e) ∙ decimal-read false m h
  written_read (decimal-minus {s = s} e m h) = sign_read 45 true s (numeral-some m) refl (rw e) (rw e) ∙ decimal-read true m h

pub integer-read : {signed : Bool} {w : ℕ} {s : List ℕ} {z : ℤ} → IntegerWord signed w s z → read_integer signed w s ≡ good z
unfolding read_integer hexadecimal ranged
integer-read {signed} {w} (word-decimal d r) = unfold ranged in written_read signed w d ∙ rw r
integer-read {signed} {w} (word-hexadecimal {s = s} m h st) = rw (sized-read hexadigit Hexadigit 16 hexadigit-read hexadigit-is (2 * w) m h) (ap good (stands_read st))

pub outside-read : {signed : Bool} {w : ℕ} {s : List ℕ} → OutsideWord signed w s → read_integer signed w s ≡ bad Outside
unfolding ranged
outside-read {signed} {w} (word-outside d r) = written_read signed w d ∙ rw r

-- how a word is judged
data Judged (signed : Bool) (w : ℕ) (s : List ℕ) : Result Fault ℤ → Type 0 where
  is-value : {z : ℤ} → IntegerWord signed w s z → Judged signed w s (good z)
  is-outside : OutsideWord signed w s → Judged signed w s (bad Outside)
  is-unwritten : Judged signed w s (bad Unwritten)

module _ (signed : Bool) (w : ℕ) where
  judged-then : {A : Type 0} {P : A → Type 0} {s : List ℕ} {r : Result Fault A} {f : A → Result Fault ℤ} → Fails (λ (e : Fault). e ≡ Unwritten) r → Holds P r
      → ((a : A) → P a → Judged signed w s (f a)) → Judged signed w s (r >>= f)
  judged-then (fails e) h f = rw e is-unwritten
  judged-then gives (holds {a = a} h) f = f a h

  ranged-judged : (s : List ℕ) (z : ℤ) → DecimalWord signed s z → Judged signed w s (ranged signed w z)
  unfolding ranged
  ranged-judged s z d = cond_cases (Judged signed w s) (in_range signed w z) (good z) (bad Outside) (λ r. is-value (word-decimal d r)) (λ r. is-outside (word-outside d r))

  -- a word of the digits t
  decimal-judged : (negative : Bool) (s t : List ℕ) → ((n : ℕ) → Numeral Digit 10 t n → length t ≤ 20 → DecimalWord signed s (with_sign negative n))
      → Judged signed w s (decimal signed w negative t)
  unfolding decimal
  decimal-judged negative s t f =
      judged-then (sized-fails digit 10 digit-fails 20 t) (sized-is digit Digit 10 digit-read digit-is 20 t) (λ n h. ranged-judged s (with_sign negative n) (f n h.0 h.1))

  plain-judged : (s : List ℕ) → Judged signed w s (decimal signed w false s)
  unfolding with_sign
  plain-judged s = decimal-judged false s s (λ n m h. decimal-plain m h)

  hexadecimal-judged : (s : List ℕ) → Judged signed w (48 ∷ 120 ∷ s) (hexadecimal signed w s)
  unfolding hexadecimal
  hexadecimal-judged s =
      judged-then (sized-fails hexadigit 16 hexadigit-fails (2 * w) s) (sized-is hexadigit Hexadigit 16 hexadigit-read hexadigit-is (2 * w) s) (λ n h.
      is-value (word-hexadecimal h.0 h.1 (stands-is signed w n (hex-lt w h.0 h.1))))

  integer-judged : (s : List ℕ) → Judged signed w s (read_integer signed w s)
  unfolding read_integer with_sign
  integer-judged [] = is-unwritten
  integer-judged (b ∷ []) = plain-judged (b ∷ [])
  integer-judged (b ∷ c ∷ s) =
      let J = Judged signed w (b ∷ c ∷ s) in
      cond_cases J (eqb b 48 && eqb c 120) _ _ (λ e. let k = and_both (eqb b 48) (eqb c 120) e in
      rw (eqb-true b 48 k.0, eqb-true c 120 k.1) (hexadecimal-judged s)) (λ _.
      cond_cases J (signed && eqb b 45) _ _ (λ e. let k = and_both signed (eqb b 45) e in
      rw (eqb-true b 45 k.1) (decimal-judged true (45 ∷ c ∷ s) (c ∷ s) (λ n m h. decimal-minus k.0 m h))) (λ _.
      cond_cases J (signed && eqb b 43) _ _ (λ e. let k = and_both signed (eqb b 43) e in
      rw (eqb-true b 43 k.1) (decimal-judged false (43 ∷ c ∷ s) (c ∷ s) (λ n m h. decimal-plus k.0 m h))) (λ _.
      plain-judged (b ∷ c ∷ s))))

pub integer-is : (signed : Bool) (w : ℕ) (s : List ℕ) → Holds (IntegerWord signed w s) (read_integer signed w s)
integer-is signed w s = go (integer-judged signed w s)
  where
    go : {r : Result Fault ℤ} → Judged signed w s r → Holds (IntegerWord signed w s) r
    go (is-value h) = holds h
    go (is-outside h) = refuses
    go is-unwritten = refuses

pub outside-is : (signed : Bool) (w : ℕ) (s : List ℕ) → Fails (λ (f : Fault). f ≡ Outside → OutsideWord signed w s) (read_integer signed w s)
outside-is signed w s = go (integer-judged signed w s)
  where
    is_outside : Fault → Bool
    is_outside Outside = true
    is_outside Unwritten = false

    go : {r : Result Fault ℤ} → Judged signed w s r → Fails (λ (f : Fault). f ≡ Outside → OutsideWord signed w s) r
    go (is-value h) = gives
    go (is-outside h) = fails (λ _. h)
    go is-unwritten = fails (λ e. absurd (false≢true (ap is_outside e)))

-- ---- truths

-- one of three bytes
pub three-bytes : (P : ℕ → Type 0) (b x y z : ℕ) → (eqb b x || eqb b y || eqb b z) ≡ true → P x → P y → P z → P b
three-bytes P b x y z h p q r =
    or-either (eqb b x || eqb b y) (eqb b z) h
    (λ h. or-either (eqb b x) (eqb b y) h (λ e. subst P (sym (eqb-true b x e)) p) (λ e. subst P (sym (eqb-true b y e)) q))
    (λ e. subst P (sym (eqb-true b z e)) r)

pub letters-true : (b : ℕ) → (eqb b 84 || eqb b 116 || eqb b 49) ≡ true → TruthLetter b (pos 1)
letters-true b h = three-bytes (λ (x : ℕ). TruthLetter x (pos 1)) b 84 116 49 h letter-T letter-t letter-1

pub letters-false : (b : ℕ) → (eqb b 70 || eqb b 102 || eqb b 48) ≡ true → TruthLetter b (pos 0)
letters-false b h = three-bytes (λ (x : ℕ). TruthLetter x (pos 0)) b 70 102 48 h letter-F letter-f letter-0

letter-read : {b : ℕ} {e : ℤ} → TruthLetter b e → truth_letter b ≡ good e
unfolding truth_letter
letter-read letter-T = refl
letter-read letter-t = refl
letter-read letter-1 = refl
letter-read letter-F = refl
letter-read letter-f = refl
letter-read letter-0 = refl

abbrev IsSmall : ℕ → Type 0
IsSmall b = (97 ≤ b) × (b ≤ 122)

case-read : {b c : ℕ} → AnyCase b c → IsSmall b → lower c ≡ b
unfolding lower between
case-read (as-small {b = b}) h = rw (lt-leb b 90 (omega arith), and-false)
case-read (as-capital {d = d} k) h = rw (le-leb 65 (65 + d) (omega arith), le-leb (65 + d) 90 (omega arith)) (omega arith)

capitals-read : {w s : List ℕ} → AnyCapitals w s → All IsSmall w → map lower s ≡ w
capitals-read capitals-end a = refl
capitals-read (capitals-then c r) a = ap₂ (λ (x : ℕ) (y : List ℕ). x ∷ y) (case-read c a.0) (capitals-read r a.1)

case-is : (b c : ℕ) → lower c ≡ b → AnyCase b c
unfolding lower
case-is b c e = go (between 65 90 c) refl e
  where
    go : (t : Bool) → between 65 90 c ≡ t → cond t (c + 32) c ≡ b → AnyCase b c
    go true h e =
        let k = between_is 65 90 c h in
        let p : 97 + (c - 65) ≡ b = omega arith in
        let q : 65 + (c - 65) ≡ c = omega arith in
        subst₂ AnyCase p q (as-capital {d = c - 65} (omega arith))
    go false h e = subst (λ (x : ℕ). AnyCase x c) e as-small

capitals-is : (w s : List ℕ) → map lower s ≡ w → AnyCapitals w s
capitals-is w [] e = subst (λ (x : List ℕ). AnyCapitals x []) e capitals-end
capitals-is w (c ∷ s) e =
    subst (λ (x : List ℕ). AnyCapitals x (c ∷ s)) e (capitals-then (case-is (lower c) c refl) (capitals-is (map lower s) s refl))

pub same_read : (s : List ℕ) → same s s ≡ true
unfolding same
same_read [] = refl
same_read (a ∷ s) = rw (eq-eqb a a refl) (same_read s)

truth-long : (s : List ℕ) → 2 ≤ length (map lower s) → truth_word s ≡ cond (same (map lower s) (bytes "true")) (good (pos 1)) (cond (same (map lower s) (bytes "false")) (good (pos 0)) (bad 11))
unfolding truth_word
truth-long [] h = absurd (omega arith)
truth-long (b ∷ []) h = absurd (omega arith)
truth-long (b ∷ c ∷ s) h = refl

pub truth-read : (s : List ℕ) (e : ℤ) → TruthWord s e → truth_word s ≡ good e
unfolding truth_word truth_letter same
truth-read s e (truth-letter l) = letter-read l
truth-read s e truth-unknown = refl
truth-read s e (truth-true c) =
    let q : map lower s ≡ bytes "true" = capitals-read c ((lit≤ tt, lit≤ tt), ((lit≤ tt, lit≤ tt), ((lit≤ tt, lit≤ tt), ((lit≤ tt, lit≤ tt), tt)))) in
    truth-long s (rw q (lit≤ tt)) ∙ rw q
truth-read s e (truth-false c) =
    let q : map lower s ≡ bytes "false" = capitals-read c ((lit≤ tt, lit≤ tt), ((lit≤ tt, lit≤ tt), ((lit≤ tt, lit≤ tt), ((lit≤ tt, lit≤ tt), ((lit≤ tt, lit≤ tt), tt))))) in
    truth-long s (rw q (lit≤ tt)) ∙ rw q

pub truth-is : (s : List ℕ) → Holds (TruthWord s) (truth_word s)
unfolding truth_word truth_letter
truth-is [] = refuses
truth-is (b ∷ []) =
    holds-cond (eqb b 84 || eqb b 116 || eqb b 49) (λ h. holds (truth-letter (letters-true b h))) (λ _.
    holds-cond (eqb b 70 || eqb b 102 || eqb b 48) (λ h. holds (truth-letter (letters-false b h))) (λ _.
    holds-cond (eqb b 63) (λ h. holds (subst (λ (x : ℕ). TruthWord (x ∷ []) (pos 2)) (sym (eqb-true b 63 h)) truth-unknown)) (λ _. refuses)))
truth-is (b ∷ c ∷ s) =
    holds-cond (same (map lower (b ∷ c ∷ s)) (bytes "true")) (λ h. holds (truth-true (capitals-is (bytes "true") (b ∷ c ∷ s) (same-is _ _ h)))) (λ _.
    holds-cond (same (map lower (b ∷ c ∷ s)) (bytes "false")) (λ h. holds (truth-false (capitals-is (bytes "false") (b ∷ c ∷ s) (same-is _ _ h)))) (λ _. refuses))

-- ---- bits

pub bits-read : {s : List ℕ} {es : List ℤ} → BitLetters s es → every bit_letter s ≡ good es
unfolding every bit_letter between
bits-read bits-end = refl
bits-read (bits-0 r) = rw (bits-read r)
bits-read (bits-1 r) = rw (bits-read r)

bit_is : (b : ℕ) → Holds (λ (e : ℤ). (s : List ℕ) (es : List ℤ) → BitLetters s es → BitLetters (b ∷ s) (e ∷ es)) (bit_letter b)
unfolding bit_letter
bit_is b = holds-cond (between 48 49 b) (λ h. holds (go (eqb b 48) refl (between_is 48 49 b h).0 (between_is 48 49 b h).1)) (λ _. refuses)
  where
    go : (t : Bool) → eqb b 48 ≡ t → 48 ≤ b → b ≤ 49 → (s : List ℕ) (es : List ℤ) → BitLetters s es → BitLetters (b ∷ s) (pos (b - 48) ∷ es)
    go true e h k s es r = rw (eqb-true b 48 e) (bits-0 r)
    go false e h k s es r =
        let q : b ≡ 49 = omega (arith, eqb-false b 48 e) in
        rw q (bits-1 r)

pub bits_are : (s : List ℕ) → Holds (BitLetters s) (every bit_letter s)
unfolding every
bits_are [] = holds bits-end
bits_are (b ∷ s) = holds-bind (bit_is b) (λ e f. holds-bind (bits_are s) (λ es r. holds (f s es r)))

-- ---- the words of a text

pub words-white : {w : List ℕ} → White w → (s : List ℕ) → words (w ++ s) ≡ words s
unfolding words pieces not_empty
words-white white-end s = refl
words-white (white-then h w) s = rw h (words-white w s)

pub words-blank : {w : List ℕ} → White w → words w ≡ []
unfolding words pieces not_empty
words-blank white-end = refl
words-blank (white-then h w) = rw h (words-blank w)

-- a text up to its first white space
data Cut (s : List ℕ) : Type 0 where
  uncut : NoWhite s → Cut s
  cut_at : (p : List ℕ) (b : ℕ) (t : List ℕ) → NoWhite p → is_white b ≡ true → s ≡ p ++ (b ∷ t) → length t < length s → Cut s

cut : (s : List ℕ) → Cut s
cut [] = uncut tt
cut (c ∷ s) = go (is_white c) refl (cut s)
  where
    go : (t : Bool) → is_white c ≡ t → Cut s → Cut (c ∷ s)
    go true h r = cut_at [] c s tt h refl (omega arith)
    go false h (uncut a) = uncut (h, a)
    go false h (cut_at p b t a k e l) = cut_at (c ∷ p) b t (h, a) k (ap (λ (x : List ℕ). c ∷ x) e) (omega arith)

-- a word as it stands
pub data Same : List ℕ → List ℕ → Type 0 where
  same_word : {v : List ℕ} → IsWord v → Same v v

spaced-white : {A : Type 0} {Word : List ℕ → A → Type 0} {s : List ℕ} {es : List A} (b : ℕ) → is_white b ≡ true → Spaced Word s es → Spaced Word (b ∷ s) es
spaced-white b h (words-none w) = words-none (white-then h w)
spaced-white b h (words_last w v) = words_last (white-then h w) v
spaced-white b h (words-then c w v k r) = words-then c (white-then h w) v k r

words-whole : (s : List ℕ) → NoWhite s → Spaced Same s (words s)
unfolding words pieces not_empty
words-whole [] a = words-none white-end
words-whole (b ∷ s) a = rw (pieces-word (b ∷ s) a) (words_last white-end (same_word {v = b ∷ s} (omega arith, a)))

words_step : (s : List ℕ) → Cut s → ((t : List ℕ) → length t < length s → Spaced Same t (words t)) → Spaced Same s (words s)
unfolding words pieces not_empty
words_step s (uncut a) ih = words-whole s a
words_step s (cut_at [] b t a h e l) ih = rw (e, h) (spaced-white b h (ih t l))
words_step s (cut_at (c ∷ p) b t a h e l) ih =
    rw (e, word_cut (c ∷ p) b t (omega arith, a) h) (words-then b white-end (same_word {v = c ∷ p} (omega arith, a)) h (ih t l))

words-from : (n : ℕ) (s : List ℕ) → length s ≤ n → Spaced Same s (words s)
words-from zero s l = words_step s (cut s) (λ t k. absurd (omega arith))
words-from (suc n) s l = words_step s (cut s) (λ t k. words-from n t (omega arith))

-- a text is its words, as they stand, and white space
pub words_are : (s : List ℕ) → Spaced Same s (words s)
words_are s = words-from (length s) s (le_refl _)

module _ {A : Type 0} (Word : List ℕ → A → Type 0) (f : List ℕ → Result ℕ A) (complete : (s : List ℕ) (e : A) → Word s e → f s ≡ good e)
    (sound : (s : List ℕ) → Holds (Word s) (f s)) (is_IsWord : (s : List ℕ) (e : A) → Word s e → IsWord s) where
  pub spaced-read : {s : List ℕ} {es : List A} → Spaced Word s es → every f (words s) ≡ good es
  unfolding every
  spaced-read (words-none w) = rw (words-blank w)
  spaced-read (words_last {v = v} {e = e} w h) = rw (words-white w v, words-one v (is_IsWord v e h), complete v e h)
  spaced-read (words-then {v = v} {e = e} b {s = s} w h k r) =
      rw (words-white w (v ++ (b ∷ s)), word_cut v b s (is_IsWord v e h) k, complete v e h, spaced-read r)

  spaced-every : {s : List ℕ} {vs : List (List ℕ)} → Spaced Same s vs → Holds (Spaced Word s) (every f vs)
  unfolding every
  spaced-every (words-none w) = holds (words-none w)
  spaced-every (words_last w (same_word {v = v} i)) = holds-bind (sound v) (λ e h. holds (words_last w h))
  spaced-every (words-then b w (same_word {v = v} i) k r) = holds-bind (sound v) (λ e h. holds-bind (spaced-every r) (λ es g. holds (words-then b w h k g)))

  pub spaced-is : (s : List ℕ) → Holds (Spaced Word s) (every f (words s))
  spaced-is s = spaced-every (words_are s)

  -- the first bad word, of those that are bad with the number n
  module _ (n : ℕ) (Bad : List ℕ → Type 0) (bad-complete : (s : List ℕ) → Bad s → f s ≡ bad n) (bad-sound : (s : List ℕ) → Fails (λ (m : ℕ). m ≡ n → Bad s) (f s))
      (bad-word : (s : List ℕ) → Bad s → IsWord s) where
    pub first_read : {s : List ℕ} → FirstBad Word Bad s → every f (words s) ≡ bad n
    unfolding every
    first_read (bad_last {v = v} w h) = rw (words-white w v, words-one v (bad-word v h), bad-complete v h)
    first_read (bad-then {v = v} b s w h k) = rw (words-white w (v ++ (b ∷ s)), word_cut v b s (bad-word v h) k, bad-complete v h)
    first_read (bad-later {v = v} {e = e} b {s = s} w h k r) =
        rw (words-white w (v ++ (b ∷ s)), word_cut v b s (is_IsWord v e h) k, complete v e h, first_read r)

    first-every : {s : List ℕ} {vs : List (List ℕ)} → Spaced Same s vs → Fails (λ (m : ℕ). m ≡ n → FirstBad Word Bad s) (every f vs)
    unfolding every
    first-every (words-none w) = gives
    first-every (words_last w (same_word {v = v} i)) = fails-bind (fails-weaken (bad-sound v) (λ m h e. bad_last w (h e))) (λ e. gives)
    first-every (words-then b {s = s} w (same_word {v = v} i) k r) =
        fails-then (fails-weaken (bad-sound v) (λ m h e. bad-then b s w (h e) k)) (sound v) (λ x h.
        fails-bind (fails-weaken (first-every r) (λ m g e. bad-later b w h k (g e))) (λ es. gives))

    pub first-is : (s : List ℕ) → Fails (λ (m : ℕ). m ≡ n → FirstBad Word Bad s) (every f (words s))
    first-is s = first-every (words_are s)

-- ---- a text of one word at most

pub data OneWord (s : List ℕ) : List (List ℕ) → Type 0 where
  no_word : White s → OneWord s []
  one_word : {w v u : List ℕ} → White w → IsWord v → White u → s ≡ w ++ (v ++ u) → OneWord s (v ∷ [])
  two-words : (v x : List ℕ) (vs : List (List ℕ)) → OneWord s (v ∷ x ∷ vs)

blank-words : {s : List ℕ} → Spaced Same s [] → White s
blank-words (words-none w) = w

one_of : {s : List ℕ} {vs : List (List ℕ)} → Spaced Same s vs → OneWord s vs
one_of (words-none w) = no_word w
one_of (words_last {w = u} w (same_word {v = v} i)) = one_word w i white-end (ap (λ (x : List ℕ). u ++ x) (sym (append-nil v)))
one_of (words-then b {es = []} w (same_word i) k r) = one_word w i (white-then k (blank-words r)) refl
one_of (words-then b {es = x ∷ vs} w (same_word {v = v} i) k r) = two-words v x vs

pub one-word-of : (s : List ℕ) → OneWord s (words s)
one-word-of s = one_of (words_are s)

-- one word between white space
pub words-trimmed : {w v u : List ℕ} → White w → IsWord v → White u → words (w ++ (v ++ u)) ≡ v ∷ []
words-trimmed {v = v} w i white-end = rw append-nil (words-white w v ∙ words-one v i)
words-trimmed {v = v} w i (white-then {b = b} {w = u} h k) = words-white w (v ++ (b ∷ u)) ∙ word_cut v b u i h ∙ ap (λ (x : List (List ℕ)). v ∷ x) (words-blank k)

-- ---- words have no white space in them

truth-letter-word : {b : ℕ} {e : ℤ} → TruthLetter b e → 33 ≤ b
truth-letter-word letter-T = lit≤ tt
truth-letter-word letter-t = lit≤ tt
truth-letter-word letter-1 = lit≤ tt
truth-letter-word letter-F = lit≤ tt
truth-letter-word letter-f = lit≤ tt
truth-letter-word letter-0 = lit≤ tt

capitals-word : {w s : List ℕ} → AnyCapitals w s → All IsSmall w → NoWhite s
capitals-word capitals-end a = tt
capitals-word (capitals-then (as-small {b = b}) r) a = (no-white b (omega (arith, a.0)), capitals-word r a.1)
capitals-word (capitals-then (as-capital {d = d} h) r) a = (no-white (65 + d) (omega arith), capitals-word r a.1)

capitals-some : {w s : List ℕ} → AnyCapitals w s → length s ≡ length w
capitals-some capitals-end = refl
capitals-some (capitals-then c r) = ap suc (capitals-some r)

pub truth-word : (s : List ℕ) (e : ℤ) → TruthWord s e → IsWord s
truth-word s e (truth-letter {b = b} l) = (lit≤ tt, (no-white b (truth-letter-word l), tt))
truth-word s e truth-unknown = (lit≤ tt, (no-white 63 (lit≤ tt), tt))
truth-word s e (truth-true c) = (rw (capitals-some c) (lit≤ tt), capitals-word c ((lit≤ tt, lit≤ tt), ((lit≤ tt, lit≤ tt), ((lit≤ tt, lit≤ tt), ((lit≤ tt, lit≤ tt), tt)))))
truth-word s e (truth-false c) = (rw (capitals-some c) (lit≤ tt), capitals-word c ((lit≤ tt, lit≤ tt), ((lit≤ tt, lit≤ tt), ((lit≤ tt, lit≤ tt), ((lit≤ tt, lit≤ tt), ((lit≤ tt, lit≤ tt), tt))))))

digit-dark : (b d : ℕ) → Digit b d → is_white b ≡ false
digit-dark b n (figure {d = d} h) = no-white (48 + d) (omega arith)

hexadigit-dark : (b d : ℕ) → Hexadigit b d → is_white b ≡ false
hexadigit-dark b n (hex-figure {d = d} h) = no-white (48 + d) (omega arith)
hexadigit-dark b n (hex-capital {d = d} h) = no-white (65 + d) (omega arith)
hexadigit-dark b n (hex-small {d = d} h) = no-white (97 + d) (omega arith)

abbrev Dark : ℕ → Type 0
Dark b = is_white b ≡ false

decimal-word : {signed : Bool} {s : List ℕ} {z : ℤ} → DecimalWord signed s z → IsWord s
decimal-word (decimal-plain m h) = (numeral-some m, numeral-all Dark digit-dark m)
decimal-word (decimal-plus e m h) = (omega arith, (no-white 43 (lit≤ tt), numeral-all Dark digit-dark m))
decimal-word (decimal-minus e m h) = (omega arith, (no-white 45 (lit≤ tt), numeral-all Dark digit-dark m))

pub outside-word : {signed : Bool} {w : ℕ} (s : List ℕ) → OutsideWord signed w s → IsWord s
outside-word s (word-outside d r) = decimal-word d

pub integer-word : {signed : Bool} {w : ℕ} (s : List ℕ) (z : ℤ) → IntegerWord signed w s z → IsWord s
integer-word s z (word-decimal d r) = decimal-word d
integer-word s z (word-hexadecimal m h t) = (omega arith, (no-white 48 (lit≤ tt), (no-white 120 (lit≤ tt), numeral-all Dark hexadigit-dark m)))

pub bit-letters-dark : {s : List ℕ} {es : List ℤ} → BitLetters s es → NoWhite s
bit-letters-dark bits-end = tt
bit-letters-dark (bits-0 r) = (no-white 48 (lit≤ tt), bit-letters-dark r)
bit-letters-dark (bits-1 r) = (no-white 49 (lit≤ tt), bit-letters-dark r)
