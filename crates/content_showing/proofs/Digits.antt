-- The digits of a number as characters: eight at once, and as many as there are.
use Prim.Native.Nat.{◌%◌, ◌*◌, ◌+◌, ◌-◌, ◌/◌, ◌<◌, ◌^◌, ◌≤◌, suc, zero, ℕ}
use native.Mathlib.Nat.{div-eq_of_lt, div-lt_iff_lt-mul, le-div_iff_mul-le, mod-eq_of_lt, mod-lt, mul-le-mul_right, one-le-pow, pow-succ', zero-div, zero-mod}
use native.Mathlib.Omega.{arith}
use mathlib.Core.Bool.{Bool, false, true}
use mathlib.Core.List.{List, [], ◌++◌, ◌∷◌, append-nil, map}
use mathlib.Core.Path.{◌∙◌, ◌≡◌, ap, ap₂, refl, subst, sym}
use lib.Bits.{bit_or, or_add_and, or_lt, and_le_l, and_le_r}
use lib.Count.{leading_top, count_leading_zeros}
use lib.Dec.{lit<, ltb}
use lib.IntN.{nat_abs, negsuc, pos, ℤ}
use lib.ListN.{length}
use lib.Pow.{pow_mono, shl-shr}
use lib.Signed.{mag}
use borrow.Author.Tests.{le-ltb, lt-ltb, ltb-false, ltb-true}
use Rattle.binary.proofs.Digits.{map-join}
use Rattle.content_showing.specs.Showing.{first_part, middle_part, sign}
use Rattle.decimals.proofs.Numerals.{digits-numerals, length-numerals}
use Rattle.decimals.specs.Clauses.{numerals}
use Rattle.eights.proofs.Lanes.{pow-bytes}
use Rattle.moving.proofs.Puts.{puts-as, puts-part, puts-wrote}
use Rattle.moving.specs.Puts.{Puts}
use Rattle.number.proofs.Decimal.{count-above, count-is, count-one}
use Rattle.number.proofs.Laws.{all-to, digits-join, digits_low, digits-some, length_to, of-append, of-from, of_lt, to-of}
use Rattle.number.specs.Number.{digits, of_digits, shortest, to_digits}
use Rattle.table.proofs.Laws.{all-weaken}
use Rattle.table.specs.All.{AreBytes}
use Rattle.table.specs.Wrote.{Wrote}

-- ---- characters for digits

sum-eight : (a b c d e f g h : ℕ) → of_digits 256 0 (a ∷ b ∷ c ∷ d ∷ e ∷ f ∷ g ∷ h ∷ []) + 3472328296227680304
    ≡ of_digits 256 0 ((a + 48) ∷ (b + 48) ∷ (c + 48) ∷ (d + 48) ∷ (e + 48) ∷ (f + 48) ∷ (g + 48) ∷ (h + 48) ∷ [])
unfolding of_digits
sum-eight a b c d e f g h = omega arith

pub eight-shown : (v : ℕ) → of_digits 256 0 (to_digits 10 8 v) + 3472328296227680304 ≡ of_digits 256 0 (numerals 8 v)
unfolding to_digits numerals
eight-shown v = sum-eight _ _ _ _ _ _ _ _

shift-bytes : (n v : ℕ) → AreBytes (numerals n v)
unfolding numerals to_digits
shift-bytes zero v = tt
shift-bytes (suc n) v = (omega (arith, mod-lt (v / 10 ^ n) (lit< {m = 0} {n = 10} tt)), shift-bytes n v)

pub shown-lt : (v : ℕ) → of_digits 256 0 (numerals 8 v) < 18446744073709551616
unfolding numerals to_digits
shown-lt v = of_lt 256 (lit< tt) (numerals 8 v) (shift-bytes 8 v)

-- the upper digits and the lower
pub numerals-join : (k n v : ℕ) → numerals (k + n) v ≡ numerals k (v / 10 ^ n) ++ numerals n v
unfolding numerals
numerals-join k n v =
    ap (map (λ (d : ℕ). d + 48)) (digits-join 10 (lit< tt) k n v ∙ ap (λ (l : List ℕ). to_digits 10 k (v / 10 ^ n) ++ l) (digits_low 10 (lit< tt) n v))
    ∙ map-join (λ (d : ℕ). d + 48) (to_digits 10 k (v / 10 ^ n)) (to_digits 10 n v)

pub numerals-low : (n v : ℕ) → numerals n (v % 10 ^ n) ≡ numerals n v
unfolding numerals
numerals-low n v = ap (map (λ (d : ℕ). d + 48)) (digits_low 10 (lit< tt) n v)

-- the low bytes of characters for digits are the lower digits
low-bytes : (k n v : ℕ) → to_digits 256 n (of_digits 256 0 (numerals (k + n) v)) ≡ numerals n v
low-bytes k n v =
    let l : length (numerals n v) ≡ n = length-numerals n v in
    ap (λ (ds : List ℕ). to_digits 256 n (of_digits 256 0 ds)) (numerals-join k n v)
    ∙ ap₂ (to_digits 256) (sym l) (of-append 256 0 (numerals k (v / 10 ^ n)) (numerals n v))
    ∙ to-of 256 (lit< tt) (of_digits 256 0 (numerals k (v / 10 ^ n))) (numerals n v) (shift-bytes n v)

-- what the code adds to eight digits does not leave 64 bits, and is stored as characters
pub shown-fits : (v t : ℕ) → t ≡ of_digits 256 0 (to_digits 10 8 v) → t + 3472328296227680304 < 18446744073709551616
shown-fits v t e = omega (arith, ap (λ (y : ℕ). y + 3472328296227680304) e ∙ eight-shown v, shown-lt v)

pub eight-put : {l l₁ : List ℕ} {o r : ℕ} (v t : ℕ) → t ≡ of_digits 256 0 (to_digits 10 8 v)
    → Wrote l o (to_digits 256 8 (t + 3472328296227680304)) l₁ r → o + 8 ≤ length l → Puts l o (numerals 8 v) l₁ r
eight-put v t e w h =
    puts-as (ap (to_digits 256 8) (ap (λ (y : ℕ). y + 3472328296227680304) e ∙ eight-shown v) ∙ low-bytes 0 8 v)
    (puts-wrote w (omega (arith, length_to 256 8 (t + 3472328296227680304))))

-- shifted up by z bytes, the other n stand in front
pub shifted : (z n x : ℕ) → n + z ≡ 8 → to_digits 256 8 (x * 2 ^ (8 * z) % 18446744073709551616) ≡ to_digits 256 n x ++ to_digits 256 z (x * 2 ^ (8 * z) % 256 ^ z)
shifted z n x e =
    let q : x * 2 ^ (8 * z) / 256 ^ z ≡ x = ap (λ (k : ℕ). x * 2 ^ (8 * z) / k) (sym (pow-bytes z)) ∙ shl-shr x (8 * z) in
    digits_low 256 (lit< tt) 8 (x * 2 ^ (8 * z))
    ∙ ap (λ (k : ℕ). to_digits 256 k (x * 2 ^ (8 * z))) (sym e)
    ∙ digits-join 256 (lit< tt) n z (x * 2 ^ (8 * z))
    ∙ ap (λ (k : ℕ). to_digits 256 n k ++ to_digits 256 z (x * 2 ^ (8 * z) % 256 ^ z)) q

-- ---- how many digits there are

-- the highest byte that is not 0 is the highest digit
zeros-above : (k : ℕ) → of_digits 256 0 (to_digits 10 k 0) ≡ 0
unfolding of_digits to_digits
zeros-above zero = refl
zeros-above (suc k) = ap (λ (d : ℕ). of_digits 256 (0 + d) (to_digits 10 k 0)) (ap (λ (q : ℕ). q % 10) (zero-div (10 ^ k)) ∙ zero-mod 10) ∙ zeros-above k

few : (k n v : ℕ) → v < 10 ^ n → of_digits 256 0 (to_digits 10 (k + n) v) ≡ of_digits 256 0 (to_digits 10 n v)
few k n v h =
    ap (of_digits 256 0) (digits-join 10 (lit< tt) k n v ∙ ap₂ (λ (x y : ℕ). to_digits 10 k x ++ to_digits 10 n y) (div-eq_of_lt h) (mod-eq_of_lt h))
    ∙ of-append 256 0 (to_digits 10 k 0) (to_digits 10 n v)
    ∙ ap (λ (a : ℕ). of_digits 256 a (to_digits 10 n v)) (zeros-above k)

digits-bytes : (n v : ℕ) → AreBytes (to_digits 10 n v)
digits-bytes n v = all-weaken _ _ (to_digits 10 n v) (λ d h. omega arith) (all-to 10 (lit< tt) n v)

below : (n v : ℕ) → of_digits 256 0 (to_digits 10 n v) < 256 ^ n
below n v = rw (length_to 10 n v) at (of_lt 256 (lit< tt) (to_digits 10 n v) (digits-bytes n v))

above : (m v : ℕ) → 10 ^ m ≤ v → v < 10 ^ suc m → 256 ^ m ≤ of_digits 256 0 (to_digits 10 (suc m) v)
unfolding of_digits to_digits
above m v l h =
    let p : 0 < 10 ^ m = one-le-pow m 10 (lit< tt) in
    let some : 1 ≤ v / 10 ^ m = (le-div_iff_mul-le p).1 (omega arith) in
    let one : v / 10 ^ m < 10 = (div-lt_iff_lt-mul p).1 (rw pow-succ' at h) in
    let d : 1 ≤ 0 + v / 10 ^ m % 10 = omega (arith, mod-eq_of_lt one) in
    let f : of_digits 256 (0 + v / 10 ^ m % 10) (to_digits 10 m v) ≡ (0 + v / 10 ^ m % 10) * 256 ^ m + of_digits 256 0 (to_digits 10 m v) =
    of-from 256 (0 + v / 10 ^ m % 10) (to_digits 10 m v) ∙ ap (λ (k : ℕ). (0 + v / 10 ^ m % 10) * 256 ^ k + of_digits 256 0 (to_digits 10 m v)) (length_to 10 m v) in
    omega (arith, f, mul-le-mul_right (256 ^ m) d)

lt-or : {P : Type 0} (a b : ℕ) → (a < b → P) → (b ≤ a → P) → P
lt-or {P} a b f g = by (ltb a b) refl
  where
    by : (t : Bool) → ltb a b ≡ t → P
    by true e = f (ltb-true a b e)
    by false e = g (ltb-false a b e)

power-less : (i j x : ℕ) → 2 ^ i ≤ x → x < 2 ^ j → i < j
power-less i j x l h = lt-or i j (λ q. q) (λ q. absurd (let m : 2 ^ j ≤ 2 ^ i = pow_mono q in omega arith))

-- of a number from 256 ^ m on and below 256 ^ (m + 1) the other bytes are 0
bytes-before : (k m x : ℕ) → k + suc m ≡ 8 → 256 ^ m ≤ x → x < 256 ^ suc m → count_leading_zeros 64 x / 8 ≡ k
bytes-before k m x e l h =
    let p : 0 < x = omega (arith, one-le-pow m 256 (lit< tt)) in
    let l₂ : 2 ^ (8 * m) ≤ x = rw (pow-bytes m) l in
    let h₂ : x < 2 ^ (8 * suc m) = rw (pow-bytes (suc m)) h in
    let fit : 8 * suc m ≤ 64 = omega arith in
    let most : 2 ^ (8 * suc m) ≤ 2 ^ 64 = pow_mono {j = 64} fit in
    let t = leading_top 64 x p (omega arith) in
    let j : ℕ = t.0 in
    let s : count_leading_zeros 64 x + suc j ≡ 64 = t.1 in
    let a : 8 * m < suc j = power-less (8 * m) (suc j) x l₂ t.3 in
    let b : j < 8 * suc m = power-less j (8 * suc m) x t.2 h₂ in
    omega (arith, s, a, b)

-- with the lowest bit set, so that a 0 counts as a digit
ored : (x m : ℕ) → x < 256 ^ suc m → (x ≤ bit_or x 1) × (1 ≤ bit_or x 1) × (bit_or x 1 < 256 ^ suc m)
ored x m h =
    let some : 1 ≤ 8 * suc m = omega arith in
    let more : 1 < 2 ^ (8 * suc m) = pow_mono {i = 1} some in
    (omega (arith, or_add_and x 1, and_le_r x 1), omega (arith, or_add_and x 1, and_le_l x 1), rw (pow-bytes (suc m)) at (or_lt (8 * suc m) x 1 (rw (pow-bytes (suc m)) h) more))

-- the digits of v and the bytes before them
abbrev Counted : ℕ → Type 0
Counted v = count_leading_zeros 64 (bit_or (of_digits 256 0 (to_digits 10 8 v)) 1) / 8 + length (digits 20 v) ≡ 8

counted-one : (v : ℕ) → v < 10 → Counted v
counted-one v h =
    let x : of_digits 256 0 (to_digits 10 8 v) ≡ of_digits 256 0 (to_digits 10 1 v) = few 7 1 v h in
    let o = ored (of_digits 256 0 (to_digits 10 1 v)) 0 (below 1 v) in
    let z = bytes-before 7 0 (bit_or (of_digits 256 0 (to_digits 10 1 v)) 1) refl o.1 o.2 in
    omega (arith, ap (λ (y : ℕ). count_leading_zeros 64 (bit_or y 1) / 8) x ∙ z, count-one v h)

counted-at : (k m v : ℕ) → k + suc m ≡ 8 → 10 ^ m ≤ v → v < 10 ^ suc m → v < 10 ^ 20 → Counted v
counted-at k m v e l h most =
    let x : of_digits 256 0 (to_digits 10 8 v) ≡ of_digits 256 0 (to_digits 10 (suc m) v) = ap (λ (j : ℕ). of_digits 256 0 (to_digits 10 j v)) (sym e) ∙ few k (suc m) v h in
    let o = ored (of_digits 256 0 (to_digits 10 (suc m) v)) m (below (suc m) v) in
    let z = bytes-before k m (bit_or (of_digits 256 0 (to_digits 10 (suc m) v)) 1) e (omega (arith, above m v l h, o.0)) o.2 in
    omega (arith, ap (λ (y : ℕ). count_leading_zeros 64 (bit_or y 1) / 8) x ∙ z, count-is m v l h most)

counted-below : (k m v : ℕ) → k + suc m ≡ 8 → v < 10 ^ suc m → v < 10 ^ 20 → Counted v
counted-below k zero v e h most = counted-one v h
counted-below k (suc m) v e h most =
    lt-or v (10 ^ suc m) (λ l. counted-below (suc k) m v (omega arith) l most) (λ g. counted-at k (suc m) v e g h most)

pub counted : (v : ℕ) → v < 100000000 → Counted v
counted v h = counted-below 0 7 v refl h (omega arith)

pub zeros-lt : (v t : ℕ) → v < 100000000 → t ≡ of_digits 256 0 (to_digits 10 8 v) → count_leading_zeros 64 (bit_or t 1) / 8 < 8
zeros-lt v t h e = omega (arith, ap (λ (y : ℕ). count_leading_zeros 64 (bit_or y 1) / 8) e, counted v h, digits-some 19 v)

-- eight digits shifted up by the bytes before them begin with the digits
pub short-bytes : (v t : ℕ) → v < 100000000 → t ≡ of_digits 256 0 (to_digits 10 8 v) → (z : ℕ) → z ≡ count_leading_zeros 64 (bit_or t 1) / 8
    → to_digits 256 8 ((t + 3472328296227680304) * 2 ^ (8 * z) % 18446744073709551616)
    ≡ digits 20 v ++ to_digits 256 z ((t + 3472328296227680304) * 2 ^ (8 * z) % 256 ^ z)
short-bytes v t h e z q =
    let n : ℕ = length (digits 20 v) in
    let c : z + n ≡ 8 = ap (λ (k : ℕ). k + n) (q ∙ ap (λ (y : ℕ). count_leading_zeros 64 (bit_or y 1) / 8) e) ∙ counted v h in
    let x : t + 3472328296227680304 ≡ of_digits 256 0 (numerals (z + n) v) =
    ap (λ (y : ℕ). y + 3472328296227680304) e ∙ eight-shown v ∙ ap (λ (k : ℕ). of_digits 256 0 (numerals k v)) (sym c) in
    shifted z n (t + 3472328296227680304) (omega arith)
    ∙ ap (λ (l : List ℕ). l ++ to_digits 256 z ((t + 3472328296227680304) * 2 ^ (8 * z) % 256 ^ z))
    (ap (to_digits 256 n) x ∙ low-bytes z n v ∙ sym (digits-numerals 20 v))

pub short-put : {l l₁ : List ℕ} {o r : ℕ} (v t z : ℕ) → v < 100000000 → t ≡ of_digits 256 0 (to_digits 10 8 v) → z ≡ count_leading_zeros 64 (bit_or t 1) / 8
    → Wrote l o (to_digits 256 8 ((t + 3472328296227680304) * 2 ^ (8 * z) % 18446744073709551616)) l₁ r → o + 8 ≤ length l → Puts l o (digits 20 v) l₁ (o + (8 - z))
short-put {l} {l₁} {o} {r} v t z h e q w room =
    let x : ℕ = (t + 3472328296227680304) * 2 ^ (8 * z) in
    let c : z + length (digits 20 v) ≡ 8 = ap (λ (k : ℕ). k + length (digits 20 v)) (q ∙ ap (λ (y : ℕ). count_leading_zeros 64 (bit_or y 1) / 8) e) ∙ counted v h in
    let n : o + length (digits 20 v) ≡ o + (8 - z) = omega arith in
    subst (λ (k : ℕ). Puts l o (digits 20 v) l₁ k) n
    (puts-part (digits 20 v) (to_digits 256 z (x % 256 ^ z))
    (puts-as (short-bytes v t h e z q) (puts-wrote w (omega (arith, length_to 256 8 (x % 18446744073709551616))))))

-- ---- a long number: its upper digits, then eight

long-digits : (v : ℕ) → 100000000 ≤ v → v < 10 ^ 20 → digits 20 v ≡ digits 20 (v / 100000000) ++ numerals 8 (v % 100000000)
long-digits v l h =
    let n : length (digits 20 v) ≡ length (digits 20 (v / 100000000)) + 8 = omega (arith, count-above 8 v l h) in
    digits-numerals 20 v ∙ ap (λ (k : ℕ). numerals k v) n
    ∙ numerals-join (length (digits 20 (v / 100000000))) 8 v
    ∙ ap₂ (λ (a b : List ℕ). a ++ b) (sym (digits-numerals 20 (v / 100000000))) (sym (numerals-low 8 v))

longer-digits : (v : ℕ) → 10000000000000000 ≤ v → v < 10 ^ 20
    → digits 20 v ≡ digits 20 (v / 100000000 / 100000000) ++ numerals 8 (v / 100000000 % 100000000) ++ numerals 8 (v % 100000000)
longer-digits v l h =
    long-digits v (omega arith) h ∙ ap (λ (a : List ℕ). a ++ numerals 8 (v % 100000000)) (long-digits (v / 100000000) (omega arith) (omega arith))

pub long-parts : (v : ℕ) → 100000000 ≤ v → v < 10 ^ 20 → digits 20 v ≡ digits 20 (first_part v) ++ middle_part v ++ numerals 8 (v % 100000000)
unfolding first_part middle_part
long-parts v l h =
    lt-or v 10000000000000000
    (λ k. rw (lt-ltb v 10000000000000000 k, append-nil (digits 20 (v / 100000000))) (long-digits v l h))
    (λ k. let e : v / 100000000 / 100000000 ≡ v / 10000000000000000 = omega arith in rw (le-ltb v 10000000000000000 k, ← e) (longer-digits v k h))

pub first_small : (v : ℕ) → v < 18446744073709551616 → first_part v < 100000000
unfolding first_part
first_small v h =
    lt-or v 10000000000000000 (λ k. rw (lt-ltb v 10000000000000000 k) (omega arith)) (λ k. rw (le-ltb v 10000000000000000 k) (omega arith))

pub middle-none : (v : ℕ) → v < 10000000000000000 → middle_part v ≡ []
unfolding middle_part
middle-none v k = rw (lt-ltb v 10000000000000000 k)

pub middle-some : (v : ℕ) → 10000000000000000 ≤ v → middle_part v ≡ numerals 8 (v / 100000000 % 100000000)
unfolding middle_part
middle-some v k = rw (le-ltb v 10000000000000000 k)

pub middle-long : (v : ℕ) → length (middle_part v) ≤ 8
middle-long v =
    lt-or v 10000000000000000 (λ k. omega (arith, ap length (middle-none v k)))
    (λ k. omega (arith, ap length (middle-some v k), length-numerals 8 (v / 100000000 % 100000000)))

pub first-is : (v : ℕ) → (v < 10000000000000000 → v / 100000000 ≡ first_part v) × (10000000000000000 ≤ v → v / 10000000000000000 ≡ first_part v)
unfolding first_part
first-is v = ((λ k. rw (lt-ltb v 10000000000000000 k)), (λ k. rw (le-ltb v 10000000000000000 k)))

-- what is put takes no more than its room
pub short-long : (v : ℕ) → v < 100000000 → length (digits 20 v) ≤ 8
short-long v h = omega (arith, counted v h)

-- ---- with its sign

pub sign-up : (z : ℤ) → z ≡ pos (mag z) → sign z ≡ []
unfolding sign
sign-up z e = rw e

pub sign-down : (z : ℤ) → z ≡ negsuc (mag z) → sign z ≡ 45 ∷ []
unfolding sign
sign-down z e = rw e

pub signed : (z : ℤ) → sign z ++ digits 20 (nat_abs z) ≡ shortest z
unfolding sign shortest
signed (pos n) = refl
signed (negsuc n) = refl

pub sign-long : (z : ℤ) → length (sign z) ≤ 1
unfolding sign
sign-long (pos n) = omega arith
sign-long (negsuc n) = omega arith
