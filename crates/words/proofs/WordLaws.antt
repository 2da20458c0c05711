-- Words: what a character is, what the kinds' ranges are, and that a word fed to the machine of Words a character at a time reads as
-- `read_integer` says: by induction on the word, once for decimal digits after any sign, once for hexadigits.
use Prim.Native.Nat.{◌%◌, ◌*◌, ◌+◌, ◌-◌, ◌<◌, ◌^◌, ◌≤◌, suc, zero, zero-le, ℕ}
use native.Mathlib.Nat.{add-zero, mod-eq_of_lt, pow-le-pow_right, pow-suc, zero-add}
use native.Mathlib.Numerals.{add-one}
use native.Mathlib.Omega.{arith}
use mathlib.Core.Bool.{Bool, and-false, cond, false, false≢true, true}
use mathlib.Core.List.{List, [], ◌++◌, ◌∷◌}
use mathlib.Core.Path.{◌∙◌, ◌≡◌, ap, refl, sym}
use lib.Dec.{eqb, lit<, lit≤, ltb}
use lib.IntN.{negsuc, neg_ℤ, pos, ℤ}
use lib.ListN.{length}
use borrow.Author.Tests.{eq-eqb, eqb-false, eqb-true, le-ltb, lt-ltb, ltb-false, ltb-true, ne_eqb}
use Rattle.number.proofs.Laws.{digit-fails, digit_lt, digit-no, hexadigit-fails, hexadigit-lt, pow-16, size-le}
use Rattle.number.specs.Clauses.{is_signed, size}
use Rattle.words.specs.Clauses.{top}
use Rattle.number.specs.Number.{Fault, Outside, Unwritten, decimal, digit, hexadecimal, hexadigit, numeral, of_pattern, ranged, read_integer, sized, with_sign}
use Rattle.words.specs.Words.{broken_word, capped, decimal_next, decimal_reading, feed, first_next, fresh, hexadecimal_next, hexadecimal_reading, reading, signed_reading, next_word, word, zero_next}
use Rattle.table.proofs.Bytes.{between-no}
use Rattle.table.proofs.Laws.{between-yes}
use Rattle.table.specs.Bytes.{between}
use Rattle.table.specs.Result.{Fails, Holds, Result, ◌>>=◌, bad, fails, gives, good, holds, refuses}
use Rattle.table.specs.Shape.{half, in_range}
use Rattle.number.specs.declared.Integer.TheVariants.{Int, Long, Short, UnsignedByte}
use Rattle.number.specs.declared.Integer.{Integer}
use Rattle.words.specs.declared.Form.{Form}
use Rattle.words.specs.declared.Form.TheVariants.{Decimal, Hexadecimal, Minus, Plus, Zero}
use Rattle.words.specs.declared.Word.{Word}

-- ---- a character

-- below, or not
pub lt-or : {P : Type 0} (a b : ℕ) → (a < b → P) → (b ≤ a → P) → P
lt-or {P} a b f g = by (ltb a b) refl
  where
    by : (t : Bool) → ltb a b ≡ t → P
    by true e = f (ltb-true a b e)
    by false e = g (ltb-false a b e)

-- a digit of a base, or not
digit_or : {P : Type 0} {r : Result Fault ℕ} {base : ℕ} → Holds (λ (d : ℕ). d < base) r → Fails (λ (e : Fault). e ≡ Unwritten) r
    → ((d : ℕ) → d < base → r ≡ good d → P) → (r ≡ bad Unwritten → P) → P
digit_or (holds {a = d} h) gives f g = f d h refl
digit_or refuses (fails e) f g = g (ap bad e)

-- ---- the range of a kind, by its largest

pub up_in : (k : Integer) (n : ℕ) → n ≤ top k → in_range (is_signed k) (size k) (pos n) ≡ true
unfolding in_range half
up_in UnsignedByte n h = lt-ltb n 256 (omega arith)
up_in Short n h = lt-ltb n 32768 (omega arith)
up_in Int n h = lt-ltb n 2147483648 (omega arith)
up_in Long n h = lt-ltb n 9223372036854775808 (omega arith)

pub up-out : (k : Integer) (n : ℕ) → top k < n → in_range (is_signed k) (size k) (pos n) ≡ false
unfolding in_range half
up-out UnsignedByte n h = le-ltb n 256 (omega arith)
up-out Short n h = le-ltb n 32768 (omega arith)
up-out Int n h = le-ltb n 2147483648 (omega arith)
up-out Long n h = le-ltb n 9223372036854775808 (omega arith)

pub down-in : (k : Integer) (n : ℕ) → is_signed k ≡ true → n ≤ top k → in_range (is_signed k) (size k) (negsuc n) ≡ true
unfolding in_range half
down-in UnsignedByte n g h = absurd (false≢true g)
down-in Short n g h = lt-ltb n 32768 (omega arith)
down-in Int n g h = lt-ltb n 2147483648 (omega arith)
down-in Long n g h = lt-ltb n 9223372036854775808 (omega arith)

pub down_out : (k : Integer) (n : ℕ) → top k < n → in_range (is_signed k) (size k) (negsuc n) ≡ false
unfolding in_range half
down_out UnsignedByte n h = refl
down_out Short n h = le-ltb n 32768 (omega arith)
down_out Int n h = le-ltb n 2147483648 (omega arith)
down_out Long n h = le-ltb n 9223372036854775808 (omega arith)

pub top_lt : (k : Integer) → top k < 2 ^ 63
top_lt UnsignedByte = lit< tt
top_lt Short = lit< tt
top_lt Int = lit< tt
top_lt Long = lit< tt

pub neg_of : (x : ℕ) → 0 < x → neg_ℤ (pos x) ≡ negsuc (x - 1)
neg_of zero h = absurd (let z : 0 < zero = h in omega arith)
neg_of (suc x) h = ap negsuc (omega arith)

-- ---- a decimal number that stays at 10 ^ 19 once it is there

cap : ℕ → ℕ
cap m = cond (ltb m (10 ^ 19)) m (10 ^ 19)

cap-step : (m d : ℕ) → d < 10 → capped (cap m) d ≡ cap (m * 10 + d)
unfolding cap capped
cap-step m d h =
    lt-or m (10 ^ 18) (λ l. rw (lt-ltb m (10 ^ 19) (omega arith), lt-ltb m (10 ^ 18) l, lt-ltb (m * 10 + d) (10 ^ 19) (omega arith))) (λ l.
    rw (le-ltb (m * 10 + d) (10 ^ 19) (omega arith))
    (lt-or m (10 ^ 19) (λ i. rw (lt-ltb m (10 ^ 19) i, le-ltb m (10 ^ 18) l)) (λ i. rw (le-ltb m (10 ^ 19) i))))

far : (k : Integer) (negative : Bool) (n : ℕ) → 10 ^ 19 ≤ n → in_range (is_signed k) (size k) (with_sign negative n) ≡ false
unfolding with_sign
far k false n h = up-out k n (omega (arith, top_lt k))
far k true n h = rw (neg_of n (omega arith)) (down_out k (n - 1) (omega (arith, top_lt k)))

cap-ranged : (k : Integer) (negative : Bool) (m : ℕ)
    → ranged (is_signed k) (size k) (with_sign negative (cap m)) ≡ ranged (is_signed k) (size k) (with_sign negative m)
unfolding cap ranged
cap-ranged k negative m =
    lt-or m (10 ^ 19) (λ l. rw (lt-ltb m (10 ^ 19) l))
    (λ l. rw (le-ltb m (10 ^ 19) l, far k negative (10 ^ 19) (lit≤ tt), far k negative m l))

-- ---- one character more

pub decimal-more : (f : Form) (n v c d : ℕ) → digit c ≡ good d → n < 20 → decimal_next f n v c ≡ word f (n + 1) (capped v d)
unfolding decimal_next
decimal-more f n v c d e h = rw (e, lt-ltb n 20 h)

pub decimal-full : (f : Form) (n v c d : ℕ) → digit c ≡ good d → 20 ≤ n → decimal_next f n v c ≡ broken_word
unfolding decimal_next
decimal-full f n v c d e h = rw (e, le-ltb n 20 h)

pub decimal-bad : (f : Form) (n v c : ℕ) → digit c ≡ bad Unwritten → decimal_next f n v c ≡ broken_word
unfolding decimal_next
decimal-bad f n v c e = rw e

pub hexadecimal-more : (n v c d : ℕ) → hexadigit c ≡ good d → n < 16 → hexadecimal_next n v c ≡ word Hexadecimal (n + 1) (v % 16 ^ 15 * 16 + d)
unfolding hexadecimal_next
hexadecimal-more n v c d e h = rw (e, lt-ltb n 16 h)

pub hexadecimal-full : (n v c d : ℕ) → hexadigit c ≡ good d → 16 ≤ n → hexadecimal_next n v c ≡ broken_word
unfolding hexadecimal_next
hexadecimal-full n v c d e h = rw (e, le-ltb n 16 h)

pub hexadecimal-bad : (n v c : ℕ) → hexadigit c ≡ bad Unwritten → hexadecimal_next n v c ≡ broken_word
unfolding hexadecimal_next
hexadecimal-bad n v c e = rw e

-- ---- a word is fed

read-broken : (k : Integer) (s : List ℕ) → reading k (feed broken_word s) ≡ bad Unwritten
unfolding feed next_word reading
read-broken k [] = refl
read-broken k (c ∷ s) = read-broken k s

both-bad : (t : Bool) (r : Result Fault ℤ) → cond t r r ≡ r
both-bad true r = refl
both-bad false r = refl

-- hexadigits
hexadecimal-end : (k : Integer) (n v : ℕ) → v < 16 ^ n
    → hexadecimal_reading k n v ≡ cond (between 1 (2 * size k) n) (good (of_pattern (is_signed k) (size k) v)) (bad Unwritten)
unfolding hexadecimal_reading
hexadecimal-end k n v h =
    lt-or n 1 (λ l. rw (eq-eqb n 0 (omega arith), between-no 1 (2 * size k) n (omega arith))) (λ l.
    rw (ne_eqb n 0 (λ e. omega arith))
    (lt-or (2 * size k) n (λ m. rw (lt-ltb (2 * size k) n m, between-no 1 (2 * size k) n (omega arith))) (λ m.
    let p : 16 ^ n ≤ 16 ^ (2 * size k) = pow-le-pow_right (lit< tt) m in
    let exact : v % 256 ^ size k ≡ v = mod-eq_of_lt (omega (arith, pow-16 (size k))) in
    rw (le-ltb (2 * size k) n m, between-yes 1 (2 * size k) n l m, exact))))

next-hexadecimal : (n v c : ℕ) → next_word (word Hexadecimal n v) c ≡ hexadecimal_next n v c
unfolding next_word
next-hexadecimal n v c = refl

read-hexadecimal : (k : Integer) (n v : ℕ) → reading k (word Hexadecimal n v) ≡ hexadecimal_reading k n v
unfolding reading
read-hexadecimal k n v = refl

hexadecimal-fed : (k : Integer) (n v : ℕ) (s : List ℕ) → n ≤ 16 → v < 16 ^ n
    → reading k (feed (word Hexadecimal n v) s)
    ≡ cond (between 1 (2 * size k) (n + length s)) (numeral hexadigit 16 v s >>= λ m. good (of_pattern (is_signed k) (size k) m)) (bad Unwritten)
unfolding feed numeral
hexadecimal-fed k n v [] h b = rw (add-zero n, read-hexadecimal k n v) (hexadecimal-end k n v b)
hexadecimal-fed k n v (c ∷ s) h b =
    rw (next-hexadecimal n v c)
    (digit_or (hexadigit-lt c) (hexadigit-fails c)
    (λ d l e. rw e (lt-or n 16
    (λ m.
    let few : n ≤ 15 = omega arith in
    let q : 16 ^ n ≤ 16 ^ 15 = pow-le-pow_right (lit< tt) few in
    let exact : v % 16 ^ 15 ≡ v = mod-eq_of_lt (omega arith) in
    let long : n + suc (length s) ≡ n + 1 + length s = omega arith in
    rw (hexadecimal-more n v c d e m, exact, long)
    (hexadecimal-fed k (n + 1) (v * 16 + d) s (omega arith) (rw (add-one n, pow-suc 16 n) (omega arith))))
    (λ m. rw (hexadecimal-full n v c d e m, between-no 1 (2 * size k) (n + suc (length s)) (omega (arith, size-le k))) (read-broken k s))))
    (λ e. rw (hexadecimal-bad n v c e, e, both-bad (between 1 (2 * size k) (n + suc (length s))) (bad Unwritten)) (read-broken k s)))

-- decimal digits, in a form whose characters are digits: what the form reads as is handed in
module _ (k : Integer) (f : Form) (steps : (n v c : ℕ) → next_word (word f n v) c ≡ decimal_next f n v c) where
  decimal-fed : (negative : Bool) → ((n v : ℕ) → reading k (word f n v) ≡ decimal_reading k negative n v) → (n m : ℕ) (s : List ℕ) → n ≤ 20
      → reading k (feed (word f n (cap m)) s)
      ≡ cond (between 1 20 (n + length s)) (numeral digit 10 m s >>= λ x. ranged (is_signed k) (size k) (with_sign negative x)) (bad Unwritten)
  unfolding feed numeral decimal_reading
  decimal-fed negative reads n m [] h =
      rw (reads n (cap m), cap-ranged k negative m, add-zero n)
      (lt-or n 1 (λ l. rw (eq-eqb n 0 (omega arith), between-no 1 20 n (omega arith))) (λ l. rw (ne_eqb n 0 (λ e. omega arith), between-yes 1 20 n l h)))
  decimal-fed negative reads n m (c ∷ s) h =
      rw (steps n (cap m) c)
      (digit_or (digit_lt c) (digit-fails c)
      (λ d l e. rw e (lt-or n 20
      (λ i.
      let long : n + suc (length s) ≡ n + 1 + length s = omega arith in
      rw (decimal-more f n (cap m) c d e i, cap-step m d l, long) (decimal-fed negative reads (n + 1) (m * 10 + d) s (omega arith)))
      (λ i. rw (decimal-full f n (cap m) c d e i, between-no 1 20 (n + suc (length s)) (omega arith)) (read-broken k s))))
      (λ e. rw (decimal-bad f n (cap m) c e, e, both-bad (between 1 20 (n + suc (length s))) (bad Unwritten)) (read-broken k s)))

  -- a sign that the kind does not have
  unsigned-fed : ((n v : ℕ) → reading k (word f n v) ≡ bad Unwritten) → (n v : ℕ) (s : List ℕ) → reading k (feed (word f n v) s) ≡ bad Unwritten
  unfolding feed
  unsigned-fed reads n v [] = reads n v
  unsigned-fed reads n v (c ∷ s) =
      rw (steps n v c)
      (digit_or (digit_lt c) (digit-fails c)
      (λ d l e. lt-or n 20 (λ i. rw (decimal-more f n v c d e i) (unsigned-fed reads (n + 1) (capped v d) s)) (λ i. rw (decimal-full f n v c d e i) (read-broken k s)))
      (λ e. rw (decimal-bad f n v c e) (read-broken k s)))

-- ---- which is what `read_integer` says

eq-or : {P : Type 0} (a b : ℕ) → (a ≡ b → P) → ((a ≡ b → ⊥) → P) → P
eq-or {P} a b f g = by (eqb a b) refl
  where
    by : (t : Bool) → eqb a b ≡ t → P
    by true e = f (eqb-true a b e)
    by false e = g (eqb-false a b e)

-- the definitions with the count of digits first
pub decimal-parts : (signed : Bool) (w : ℕ) (negative : Bool) (s : List ℕ)
    → decimal signed w negative s ≡ cond (between 1 20 (length s)) (numeral digit 10 0 s >>= λ n. ranged signed w (with_sign negative n)) (bad Unwritten)
unfolding decimal sized
decimal-parts signed w negative s = by (between 1 20 (length s))
  where
    by : (t : Bool) → (cond t (numeral digit 10 0 s) (bad Unwritten) >>= λ n. ranged signed w (with_sign negative n))
        ≡ cond t (numeral digit 10 0 s >>= λ n. ranged signed w (with_sign negative n)) (bad Unwritten)
    by true = refl
    by false = refl

hexadecimal-parts : (signed : Bool) (w : ℕ) (s : List ℕ)
    → hexadecimal signed w s ≡ cond (between 1 (2 * w) (length s)) (numeral hexadigit 16 0 s >>= λ n. good (of_pattern signed w n)) (bad Unwritten)
unfolding hexadecimal sized
hexadecimal-parts signed w s = by (between 1 (2 * w) (length s))
  where
    by : (t : Bool) → (cond t (numeral hexadigit 16 0 s) (bad Unwritten) >>= λ n. good (of_pattern signed w n)) ≡ cond t (numeral hexadigit 16 0 s >>= λ n. good (of_pattern signed w n))
        (bad Unwritten)
    by true = refl
    by false = refl

bad-first : (signed : Bool) (w b : ℕ) (s : List ℕ) → digit b ≡ bad Unwritten → decimal signed w false (b ∷ s) ≡ bad Unwritten
unfolding numeral
bad-first signed w b s e = decimal-parts signed w false (b ∷ s) ∙ rw (e, both-bad (between 1 20 (suc (length s))) (bad Unwritten))

-- a form whose characters are digits, from its first
module _ (k : Integer) (f : Form) (steps : (n v c : ℕ) → next_word (word f n v) c ≡ decimal_next f n v c) where
  decimal-of : (negative : Bool) → ((n v : ℕ) → reading k (word f n v) ≡ decimal_reading k negative n v)
      → (s : List ℕ) → reading k (feed (word f 0 0) s) ≡ decimal (is_signed k) (size k) negative s
  unfolding cap
  decimal-of negative reads s =
      decimal-fed k f steps negative reads 0 0 s zero-le ∙ rw (zero-add (length s)) (sym (decimal-parts (is_signed k) (size k) negative s))

  -- after a sign
  sign-case : (negative : Bool) (b : ℕ)
      → (is_signed k ≡ true → (n v : ℕ) → reading k (word f n v) ≡ decimal_reading k negative n v)
      → (is_signed k ≡ false → (n v : ℕ) → reading k (word f n v) ≡ bad Unwritten)
      → ((w : ℕ) (s : List ℕ) → read_integer true w (b ∷ s) ≡ decimal true w negative s)
      → ((w : ℕ) (s : List ℕ) → read_integer false w (b ∷ s) ≡ bad Unwritten)
      → (s : List ℕ) → reading k (feed (word f 0 0) s) ≡ read_integer (is_signed k) (size k) (b ∷ s)
  sign-case negative b has lacks with-sign without s = by (is_signed k) refl
    where
      by : (signed : Bool) → is_signed k ≡ signed → reading k (feed (word f 0 0) s) ≡ read_integer signed (size k) (b ∷ s)
      by true e = decimal-of negative (has e) s ∙ ap (λ (g : Bool). decimal g (size k) negative s) e ∙ sym (with-sign (size k) s)
      by false e = unsigned-fed k f steps (lacks e) 0 0 s ∙ sym (without (size k) s)

next-plus : (n v c : ℕ) → next_word (word Plus n v) c ≡ decimal_next Plus n v c
unfolding next_word
next-plus n v c = refl

plus-yes : (k : Integer) → is_signed k ≡ true → (n v : ℕ) → reading k (word Plus n v) ≡ decimal_reading k false n v
unfolding reading
plus-yes k e n v = rw e

plus-no : (k : Integer) → is_signed k ≡ false → (n v : ℕ) → reading k (word Plus n v) ≡ bad Unwritten
unfolding reading
plus-no k e n v = rw e

after_plus : (w : ℕ) (s : List ℕ) → read_integer true w (43 ∷ s) ≡ decimal true w false s
unfolding read_integer decimal sized numeral digit between
after_plus w [] = refl
after_plus w (c ∷ s) = refl

no_plus : (w : ℕ) (s : List ℕ) → read_integer false w (43 ∷ s) ≡ bad Unwritten
unfolding read_integer
no_plus w [] = bad-first false w 43 [] (digit-no 43 (omega arith))
no_plus w (c ∷ s) = bad-first false w 43 (c ∷ s) (digit-no 43 (omega arith))

plus-case : (k : Integer) (s : List ℕ) → reading k (feed (word Plus 0 0) s) ≡ read_integer (is_signed k) (size k) (43 ∷ s)
plus-case k s = sign-case k Plus next-plus false 43 (plus-yes k) (plus-no k) after_plus no_plus s

next-minus : (n v c : ℕ) → next_word (word Minus n v) c ≡ decimal_next Minus n v c
unfolding next_word
next-minus n v c = refl

minus-yes : (k : Integer) → is_signed k ≡ true → (n v : ℕ) → reading k (word Minus n v) ≡ decimal_reading k true n v
unfolding reading
minus-yes k e n v = rw e

minus-no : (k : Integer) → is_signed k ≡ false → (n v : ℕ) → reading k (word Minus n v) ≡ bad Unwritten
unfolding reading
minus-no k e n v = rw e

pub after_minus : (w : ℕ) (s : List ℕ) → read_integer true w (45 ∷ s) ≡ decimal true w true s
unfolding read_integer decimal sized numeral digit between
after_minus w [] = refl
after_minus w (c ∷ s) = refl

no_minus : (w : ℕ) (s : List ℕ) → read_integer false w (45 ∷ s) ≡ bad Unwritten
unfolding read_integer
no_minus w [] = bad-first false w 45 [] (digit-no 45 (omega arith))
no_minus w (c ∷ s) = bad-first false w 45 (c ∷ s) (digit-no 45 (omega arith))

minus-case : (k : Integer) (s : List ℕ) → reading k (feed (word Minus 0 0) s) ≡ read_integer (is_signed k) (size k) (45 ∷ s)
minus-case k s = sign-case k Minus next-minus true 45 (minus-yes k) (minus-no k) after_minus no_minus s

-- digits without a sign, of which one or none is behind
next-decimal : (n v c : ℕ) → next_word (word Decimal n v) c ≡ decimal_next Decimal n v c
unfolding next_word
next-decimal n v c = refl

read-decimal : (k : Integer) (n v : ℕ) → reading k (word Decimal n v) ≡ decimal_reading k false n v
unfolding reading
read-decimal k n v = refl

plain-integer : (signed : Bool) (w b : ℕ) (s : List ℕ) → (b ≡ 43 → ⊥) → (b ≡ 45 → ⊥) → (b ≡ 48 → ⊥) → read_integer signed w (b ∷ s) ≡ decimal signed w false (b ∷ s)
unfolding read_integer
plain-integer signed w b [] p m z = refl
plain-integer signed w b (c ∷ s) p m z = rw (ne_eqb b 48 z, ne_eqb b 45 m, and-false, ne_eqb b 43 p, and-false)

other-case : (k : Integer) (b : ℕ) (s : List ℕ) → (b ≡ 43 → ⊥) → (b ≡ 45 → ⊥) → (b ≡ 48 → ⊥)
    → reading k (feed (decimal_next Decimal 0 0 b) s) ≡ read_integer (is_signed k) (size k) (b ∷ s)
unfolding feed
other-case k b s p m z =
    ap (λ (w : Word). reading k (feed w s)) (sym (next-decimal 0 0 b))
    ∙ decimal-of k Decimal next-decimal false (read-decimal k) (b ∷ s)
    ∙ sym (plain-integer (is_signed k) (size k) b s p m z)

zero-alone : (k : Integer) → reading k (feed (word Zero 1 0) []) ≡ read_integer (is_signed k) (size k) (48 ∷ [])
unfolding feed reading read_integer decimal sized numeral digit between ranged with_sign
zero-alone k = rw (up_in k 0 zero-le)

zero-x : (k : Integer) (s : List ℕ) → reading k (feed (word Zero 1 0) (120 ∷ s)) ≡ read_integer (is_signed k) (size k) (48 ∷ 120 ∷ s)
unfolding feed next_word zero_next read_integer
zero-x k s = hexadecimal-fed k 0 0 s zero-le (lit< tt) ∙ rw (zero-add (length s)) (sym (hexadecimal-parts (is_signed k) (size k) s))

-- no x: a decimal word, of which one digit is behind
module _ (c : ℕ) (s : List ℕ) where
  zero-next : (c ≡ 120 → ⊥) → feed (word Zero 1 0) (c ∷ s) ≡ feed (word Decimal 1 (cap 0)) (c ∷ s)
  unfolding feed next_word zero_next cap
  zero-next n = rw (ne_eqb c 120 n)

  zero-integer : (signed : Bool) (w : ℕ) → (c ≡ 120 → ⊥) → read_integer signed w (48 ∷ c ∷ s) ≡ decimal signed w false (48 ∷ c ∷ s)
  unfolding read_integer
  zero-integer signed w n = rw (ne_eqb c 120 n, and-false)

  zero-behind : (signed : Bool) (w : ℕ) → decimal signed w false (48 ∷ c ∷ s)
      ≡ cond (between 1 20 (1 + length (c ∷ s))) (numeral digit 10 0 (c ∷ s) >>= λ n. ranged signed w (with_sign false n)) (bad Unwritten)
  unfolding numeral digit
  zero-behind signed w =
      let e : 1 + suc (length s) ≡ suc (suc (length s)) = omega arith in
      decimal-parts signed w false (48 ∷ c ∷ s) ∙ rw (e, between-yes 48 57 48 (lit≤ tt) (lit≤ tt))

zero-case : (k : Integer) (s : List ℕ) → reading k (feed (word Zero 1 0) s) ≡ read_integer (is_signed k) (size k) (48 ∷ s)
zero-case k [] = zero-alone k
zero-case k (c ∷ s) =
    eq-or c 120 (λ e. rw e (zero-x k s))
    (λ n. ap (reading k) (zero-next c s n)
    ∙ decimal-fed k Decimal next-decimal false (read-decimal k) 1 0 (c ∷ s) (lit≤ tt)
    ∙ sym (zero-integer c s (is_signed k) (size k) n ∙ zero-behind c s (is_signed k) (size k)))

-- a word fed a character at a time reads as the whole word does
fed-none : (k : Integer) → reading k fresh ≡ read_integer (is_signed k) (size k) []
unfolding reading read_integer
fed-none k = refl

pub fed-reads : (k : Integer) (s : List ℕ) → reading k (feed fresh s) ≡ read_integer (is_signed k) (size k) s
unfolding feed next_word first_next
fed-reads k [] = fed-none k
fed-reads k (b ∷ s) =
    eq-or b 43 (λ e. rw e (plus-case k s)) (λ p.
    eq-or b 45 (λ e. rw e (minus-case k s)) (λ m.
    eq-or b 48 (λ e. rw e (zero-case k s)) (λ z. rw (ne_eqb b 43 p, ne_eqb b 45 m, ne_eqb b 48 z) (other-case k b s p m z))))

-- one character more
pub feed-more : (w : Word) (s : List ℕ) (c : ℕ) → feed w (s ++ (c ∷ [])) ≡ next_word (feed w s) c
unfolding feed
feed-more w [] c = refl
feed-more w (b ∷ s) c = feed-more (next_word w b) s c

-- ---- what the code's answers are

pub decimal-none : (k : Integer) (negative : Bool) (n v : ℕ) → n ≡ 0 → decimal_reading k negative n v ≡ bad Unwritten
unfolding decimal_reading
decimal-none k negative n v e = rw (eq-eqb n 0 e)

pub decimal-up : (k : Integer) (n v : ℕ) → (n ≡ 0 → ⊥) → v ≤ top k → decimal_reading k false n v ≡ good (pos v)
unfolding decimal_reading ranged with_sign
decimal-up k n v e h = rw (ne_eqb n 0 e, up_in k v h)

pub decimal-over : (k : Integer) (n v : ℕ) → (n ≡ 0 → ⊥) → top k < v → decimal_reading k false n v ≡ bad Outside
unfolding decimal_reading ranged with_sign
decimal-over k n v e h = rw (ne_eqb n 0 e, up-out k v h)

pub decimal-zero : (k : Integer) (n v : ℕ) → (n ≡ 0 → ⊥) → v ≡ 0 → decimal_reading k true n v ≡ good (pos 0)
unfolding decimal_reading ranged with_sign
decimal-zero k n v e z = rw (ne_eqb n 0 e, z) (rw (up_in k 0 zero-le))

pub decimal-down : (k : Integer) (n v : ℕ) → (n ≡ 0 → ⊥) → (v ≡ 0 → ⊥) → is_signed k ≡ true → v - 1 ≤ top k → decimal_reading k true n v ≡ good (negsuc (v - 1))
unfolding decimal_reading ranged with_sign
decimal-down k n v e z g h = rw (ne_eqb n 0 e, neg_of v (omega arith)) (rw (down-in k (v - 1) g h))

pub decimal-under : (k : Integer) (n v : ℕ) → (n ≡ 0 → ⊥) → (v ≡ 0 → ⊥) → top k < v - 1 → decimal_reading k true n v ≡ bad Outside
unfolding decimal_reading ranged with_sign
decimal-under k n v e z h = rw (ne_eqb n 0 e, neg_of v (omega arith)) (rw (down_out k (v - 1) h))

-- after a sign: of a kind that has one, and of another
pub signed_yes : (k : Integer) (negative : Bool) (n v : ℕ) → is_signed k ≡ true → signed_reading k negative n v ≡ decimal_reading k negative n v
signed_yes k negative n v e = rw e

pub signed_no : (k : Integer) (negative : Bool) (n v : ℕ) → is_signed k ≡ false → signed_reading k negative n v ≡ bad Unwritten
signed_no k negative n v e = rw e

pub hexadecimal-none : (k : Integer) (n v : ℕ) → n ≡ 0 → hexadecimal_reading k n v ≡ bad Unwritten
unfolding hexadecimal_reading
hexadecimal-none k n v e = rw (eq-eqb n 0 e)

pub hexadecimal-many : (k : Integer) (n v : ℕ) → (n ≡ 0 → ⊥) → 2 * size k < n → hexadecimal_reading k n v ≡ bad Unwritten
unfolding hexadecimal_reading
hexadecimal-many k n v e h = rw (ne_eqb n 0 e, lt-ltb (2 * size k) n h)

pub hexadecimal-value : (k : Integer) (n v : ℕ) → (n ≡ 0 → ⊥) → n ≤ 2 * size k → hexadecimal_reading k n v ≡ good (of_pattern (is_signed k) (size k) (v % 256 ^ size k))
unfolding hexadecimal_reading
hexadecimal-value k n v e h = rw (ne_eqb n 0 e, le-ltb (2 * size k) n h)
