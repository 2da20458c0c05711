-- The flags of a row as one number: the bits of bytes are the digits of the number that the bytes spell, and so back.
use Rattle.table.proofs.Places.{done, next1}
use Prim.Native.Nat.{◌%◌, ◌*◌, ◌+◌, ◌-◌, ◌/◌, ◌<◌, ◌^◌, ◌≤◌, suc, zero, ℕ}
use Rattle.binary.proofs.Digits.{digits-split, unit-is, zero-digits}
use Rattle.binary.proofs.Laws.{length-pack}
use Rattle.binary.specs.Binary.{bit_bytes, bits_of, first_bytes, pack, packed, read_flags, unpack}
use Rattle.number.proofs.Laws.{digits_last, digits_low, length_to, of-from, of_lt, of-to-from, pow_pos}
use Rattle.number.specs.Number.{of_digits, to_digits}
use Rattle.table.proofs.Laws.{all_drop, all_take}
use Rattle.table.specs.All.{AreBytes}
use Rattle.table.specs.Result.{◌>>=◌, bad, good}
use borrow.Author.Tests.{eq-eqb, le-ltb, lt-ltb, ne_eqb}
use lib.Arith.{digits_div, digits_mod}
use lib.Dec.{eqb, lit<}
use lib.ListN.{drop, get_or, length, length-drop, replicate, set, take}
use lib.Pow.{mod-mod-pow, pow-add, pow_mono}
use lib.Seq.{drop_at, drop-drop, length-take-le, sets, take_at}
use mathlib.Core.Bool.{cond}
use mathlib.Core.List.{List, [], ◌++◌, ◌∷◌}
use mathlib.Core.Path.{◌∙◌, ◌≡◌, ap, ap₂, refl, sym}
use native.Mathlib.Nat.{div-lt_iff_lt-mul, mul-div_cancel, mul-mod_left, pow-succ', zero-div}
use native.Mathlib.Numerals.{add-one}
use native.Mathlib.Omega.{arith}

-- ---- powers

pub pow-bytes : (k : ℕ) → 256 ^ k ≡ 2 ^ (8 * k)
pow-bytes zero = refl
pow-bytes (suc k) =
    let e : 8 + 8 * k ≡ 8 * suc k = omega arith in
    pow-succ' 256 k ∙ ap (λ (n : ℕ). 256 * n) (pow-bytes k) ∙ sym (pow-add 2 8 (8 * k)) ∙ ap (λ (n : ℕ). 2 ^ n) e

pub bytes_fit : (k : ℕ) → k ≤ 8 → 256 ^ k ≤ 2 ^ 64
bytes_fit k h = rw (pow-bytes k) (pow_mono (let d : 8 * k ≤ 64 = omega arith in d))

pub bytes-grow : (k x b : ℕ) → x < 256 ^ k → b < 256 → x * 256 + b < 256 ^ (k + 1)
bytes-grow k x b h m = omega (arith, pow-add 256 k 1)

-- ---- bytes to a number

pub byte_next : (t : List ℕ) (k x : ℕ) → k < length t → of_digits 256 x (drop k t) ≡ of_digits 256 (x * 256 + get_or t k 0) (drop (k + 1) t)
unfolding of_digits
byte_next t k x h = rw (next1 t k h)

pub no_byte : (t : List ℕ) (k x : ℕ) → length t ≤ k → x ≡ of_digits 256 x (drop k t)
unfolding of_digits
no_byte t k x h = rw (done t k h)

pub are-bytes : (s : List ℕ) → ((i : ℕ) → get_or s i 0 < 256) → AreBytes s
are-bytes [] h = tt
are-bytes (b ∷ s) h = (h 0, are-bytes s (λ i. h (suc i)))

-- a byte before others: its bits, then theirs
byte-bits : (b : ℕ) (s : List ℕ) → AreBytes s → to_digits 2 8 b ++ to_digits 2 (8 * length s) (of_digits 256 0 s) ≡ to_digits 2 (8 * suc (length s)) (of_digits 256 (0 * 256 + b) s)
byte-bits b s a =
    let n : ℕ = 8 * length s in
    let x : ℕ = of_digits 256 0 s in
    let z : 0 * 256 + b ≡ b = omega arith in
    let v : of_digits 256 (0 * 256 + b) s ≡ b * 2 ^ n + x = of-from 256 (0 * 256 + b) s ∙ ap₂ (λ (k m : ℕ). k * m + x) z (pow-bytes (length s)) in
    let lt : x < 2 ^ n = rw (← pow-bytes (length s)) (of_lt 256 (lit< tt) s a) in
    let e : 8 * suc (length s) ≡ 8 + n = omega arith in
    sym (ap₂ (λ (k y : ℕ). to_digits 2 k y) e v
    ∙ digits-split 8 n (b * 2 ^ n + x)
    ∙ ap₂ (λ (k m : List ℕ). k ++ m) (ap (to_digits 2 8) (digits_div b lt))
    (sym (digits_low 2 (lit< tt) n (b * 2 ^ n + x)) ∙ ap (to_digits 2 n) (digits_mod b lt)))

bits-number : (p : List ℕ) → AreBytes p → bits_of p ≡ to_digits 2 (8 * length p) (of_digits 256 0 p)
unfolding bits_of of_digits to_digits
bits-number [] a = refl
bits-number (b ∷ s) a = ap (λ (l : List ℕ). to_digits 2 8 b ++ l) (bits-number s a.1) ∙ byte-bits b s a.1

unpack-number : (n spare x : ℕ) (p : List ℕ) → bits_of p ≡ to_digits 2 (n + spare) x
    → unpack n p ≡ cond (eqb (x % 2 ^ spare) 0) (good (to_digits 2 n (x / 2 ^ spare))) (bad 13)
unfolding unpack
unpack-number n spare x p e =
    let high : List ℕ = to_digits 2 n (x / 2 ^ spare) in
    let low : List ℕ = to_digits 2 spare x in
    rw (
      e,
      digits-split n spare x,
      drop_at high low n (length_to 2 n (x / 2 ^ spare)),
      take_at high low n (length_to 2 n (x / 2 ^ spare)),
      zero-digits spare x,
    )

round_up : (n : ℕ) → 8 * bit_bytes n ≡ n + (8 * bit_bytes n - n)
unfolding bit_bytes
round_up n = omega arith

module _ (n at : ℕ) (s : List ℕ) where
  pub flags-short : length s - at < bit_bytes n → read_flags n (drop at s) ≡ bad 8
  unfolding read_flags first_bytes
  flags-short h = rw (length-drop at s, lt-ltb (length s - at) (bit_bytes n) h)

  module _ (h : bit_bytes n ≤ length s - at) (x : ℕ) (q : x ≡ of_digits 256 0 (take (bit_bytes n) (drop at s))) (a : AreBytes s) where
    p : List ℕ
    p = take (bit_bytes n) (drop at s)

    are : AreBytes p
    unfolding p
    are = all_take _ (bit_bytes n) (drop at s) (all_drop _ at s a)

    long : length p ≡ bit_bytes n
    unfolding p
    long = length-take-le (bit_bytes n) (drop at s) (simp length-drop h)

    number-is-x : of_digits 256 0 p ≡ x
    unfolding p
    number-is-x = sym q

    bits-are-x : bits_of p ≡ to_digits 2 (n + (8 * bit_bytes n - n)) x
    bits-are-x = bits-number p are ∙ ap₂ (λ (k y : ℕ). to_digits 2 k y) (ap (λ (k : ℕ). 8 * k) long ∙ round_up n) number-is-x

    flags-at : read_flags n (drop at s) ≡ (unpack n p >>= λ bits. good (bits, drop (at + bit_bytes n) s))
    unfolding read_flags first_bytes p
    flags-at = rw (length-drop at s, le-ltb (length s - at) (bit_bytes n) h, drop-drop (bit_bytes n) at s)

    pub flags-good : x % 2 ^ (8 * bit_bytes n - n) ≡ 0 → read_flags n (drop at s) ≡ good (to_digits 2 n (x / 2 ^ (8 * bit_bytes n - n)), drop (at + bit_bytes n) s)
    flags-good z = flags-at ∙ rw (unpack-number n (8 * bit_bytes n - n) x p bits-are-x, eq-eqb _ 0 z)

    pub flags-spoiled : (x % 2 ^ (8 * bit_bytes n - n) ≡ 0 → ⊥) → read_flags n (drop at s) ≡ bad 13
    flags-spoiled z = flags-at ∙ rw (unpack-number n (8 * bit_bytes n - n) x p bits-are-x, ne_eqb _ 0 z)

    pub flags-few : x / 2 ^ (8 * bit_bytes n - n) < 2 ^ n
    flags-few =
        let e : 256 ^ length p ≡ 2 ^ n * 2 ^ (8 * bit_bytes n - n) = pow-bytes (length p) ∙ ap (λ (k : ℕ). 2 ^ (8 * k)) long ∙ ap (λ (k : ℕ). 2 ^ k) (round_up n) ∙ pow-add 2 n (8 * bit_bytes n - n) in
        let lt : x < 2 ^ n * 2 ^ (8 * bit_bytes n - n) = rw (e, number-is-x) at (of_lt 256 (lit< tt) p are) in
        (div-lt_iff_lt-mul (pow_pos 2 (lit< tt) (8 * bit_bytes n - n))).1 lt

-- ---- a flag, and one more

-- the flag of column k: its bit of the number
pub digit_at : (n k x : ℕ) → k < n → get_or (to_digits 2 n x) k 0 ≡ x / 2 ^ ((n - 1) - k) % 2
unfolding to_digits
digit_at zero k x h = absurd (omega arith)
digit_at (suc n) zero x h = let e : (suc n - 1) - 0 ≡ n = omega arith in rw e
digit_at (suc n) (suc k) x h = let e : (suc n - 1) - suc k ≡ (n - 1) - k = omega arith in rw e (digit_at n k x (omega arith))

flag-next : (k flags b : ℕ) → b < 2 → to_digits 2 (k + 1) (flags * 2 + b) ≡ to_digits 2 k flags ++ (b ∷ [])
flag-next k flags b h =
    let e : (flags * 2 + b) / 2 ≡ flags = omega arith in
    let r : (flags * 2 + b) % 2 ≡ b = omega arith in
    ap (λ (n : ℕ). to_digits 2 n (flags * 2 + b)) (add-one k) ∙ digits_last 2 (lit< tt) k (flags * 2 + b) ∙ rw (e, r)

-- of a number cut to 64 bits the low digits are its own
bits-of-word : (n x : ℕ) → n ≤ 64 → to_digits 2 n (x % 2 ^ 64) ≡ to_digits 2 n x
bits-of-word n x h =
    let e : 64 ≡ (64 - n) + n = omega arith in
    sym (digits_low 2 (lit< tt) n (x % 2 ^ 64)) ∙ ap (to_digits 2 n) (ap (λ (k : ℕ). x % 2 ^ k % 2 ^ n) e ∙ mod-mod-pow x (64 - n) n) ∙ digits_low 2 (lit< tt) n x

bytes-of-word : (m x : ℕ) → m ≤ 8 → to_digits 256 m (x % 2 ^ 64) ≡ to_digits 256 m x
bytes-of-word m x h =
    let e : 64 ≡ (64 - 8 * m) + 8 * m = omega arith in
    let q : x % 2 ^ 64 % 256 ^ m ≡ x % 256 ^ m = rw (pow-bytes m) (ap (λ (k : ℕ). x % 2 ^ k % 2 ^ (8 * m)) e ∙ mod-mod-pow x (64 - 8 * m) (8 * m)) in
    sym (digits_low 256 (lit< tt) m (x % 2 ^ 64)) ∙ ap (to_digits 256 m) q ∙ digits_low 256 (lit< tt) m x

-- a flag behind those of a word shifted by one
pub flag-added : (k flags b : ℕ) → k < 64 → b < 2 → to_digits 2 (k + 1) ((flags * 2 ^ 1) % 2 ^ 64 + b) ≡ to_digits 2 k flags ++ (b ∷ [])
flag-added k flags b h few =
    let e : (flags * 2 ^ 1) % 2 ^ 64 + b ≡ (flags * 2 + b) % 2 ^ 64 = omega arith in
    ap (to_digits 2 (k + 1)) e ∙ bits-of-word (k + 1) (flags * 2 + b) (omega arith) ∙ flag-next k flags b few

-- ---- a number to bytes

pub byte_left : (out : List ℕ) (o m x : ℕ) → 0 < m → sets out o (to_digits 256 m x) ≡ sets (set out o (x / 2 ^ (8 * (m - 1)) % 256)) (o + 1) (to_digits 256 (m - 1) x)
unfolding to_digits
byte_left out o m x h =
    let e : m ≡ suc (m - 1) = omega arith in
    ap (λ (n : ℕ). sets out o (to_digits 256 n x)) e ∙ rw (pow-bytes (m - 1), add-one)

zero_bits : (n : ℕ) → to_digits 2 n 0 ≡ replicate n 0
unfolding to_digits
zero_bits zero = refl
zero_bits (suc n) = ap₂ (λ (d : ℕ) (ds : List ℕ). d ∷ ds) (let e : 0 / 2 ^ n ≡ 0 = zero-div (2 ^ n) in rw e) (zero_bits n)

shifted : (n spare f : ℕ) → to_digits 2 n f ++ replicate spare 0 ≡ to_digits 2 (n + spare) (f * 2 ^ spare)
shifted n spare f =
    sym (digits-split n spare (f * 2 ^ spare)
    ∙ ap₂ (λ (a b : List ℕ). a ++ b) (ap (to_digits 2 n) (mul-div_cancel f (pow_pos 2 (lit< tt) spare)))
    (sym (digits_low 2 (lit< tt) spare (f * 2 ^ spare)) ∙ ap (to_digits 2 spare) (mul-mod_left f (2 ^ spare)) ∙ zero_bits spare))

packed-digits : (m y : ℕ) → packed m (to_digits 2 (8 * m) y) ≡ to_digits 256 m y
unfolding packed to_digits
packed-digits zero y = refl
packed-digits (suc m) y =
    let e : 8 * suc m ≡ 8 + 8 * m = omega arith in
    let high : List ℕ = to_digits 2 8 (y / 2 ^ (8 * m)) in
    let v : of_digits 2 0 high ≡ y / 256 ^ m % 256 = of-to-from 2 (lit< tt) 8 0 (y / 2 ^ (8 * m))
    ∙ rw (pow-bytes m) (let d : 0 * 256 + y / 2 ^ (8 * m) % 256 ≡ y / 2 ^ (8 * m) % 256 = omega arith in d) in
    ap (packed (suc m)) (ap (λ (k : ℕ). to_digits 2 k y) e ∙ digits-split 8 (8 * m) y)
    ∙ rw (take_at high (to_digits 2 (8 * m) y) 8 (length_to 2 8 (y / 2 ^ (8 * m))), drop_at high (to_digits 2 (8 * m) y) 8 (length_to 2 8 (y / 2 ^ (8 * m))))
    (ap₂ (λ (k : ℕ) (l : List ℕ). k ∷ l) v (packed-digits m y))

pub pack-digits : (n f : ℕ) → pack (to_digits 2 n f) ≡ to_digits 256 (bit_bytes n) (f * 2 ^ (8 * bit_bytes n - n))
unfolding pack
pack-digits n f =
    let e : 8 * bit_bytes n ≡ n + (8 * bit_bytes n - n) = round_up n in
    rw (length_to 2 n f, shifted n (8 * bit_bytes n - n) f, ← e) (packed-digits (bit_bytes n) (f * 2 ^ (8 * bit_bytes n - n)))

pub length-flags : (n f : ℕ) → length (pack (to_digits 2 n f)) ≡ bit_bytes n
length-flags n f = length-pack (to_digits 2 n f) ∙ ap bit_bytes (length_to 2 n f)

-- ---- as the code has them: a number of bytes m, and the unit of the spare bits

few-spare : (n m : ℕ) → m ≡ bit_bytes n → 8 * m - n ≤ 7
unfolding bit_bytes
few-spare n m e = omega arith

module _ (n at m : ℕ) (s : List ℕ) (e : m ≡ bit_bytes n) (h : m ≤ length s - at) (x : ℕ) (q : x ≡ of_digits 256 0 (take m (drop at s))) (a : AreBytes s) where
  unit : (1 * 2 ^ (8 * m - n)) % 2 ^ 64 ≡ 2 ^ (8 * bit_bytes n - n)
  unit = unit-is (8 * m - n) (omega (arith, few-spare n m e)) ∙ ap (λ (k : ℕ). 2 ^ (8 * k - n)) e

  pub start-good : x % ((1 * 2 ^ (8 * m - n)) % 2 ^ 64) ≡ 0
      → read_flags n (drop at s) ≡ good (to_digits 2 n (x / ((1 * 2 ^ (8 * m - n)) % 2 ^ 64)), drop (at + m) s)
  start-good z =
      flags-good n at s (rw e at h) x (rw e at q) a (ap (λ (u : ℕ). x % u) (sym unit) ∙ z)
      ∙ sym (ap₂ (λ (u k : ℕ). good (to_digits 2 n (x / u), drop (at + k) s)) unit e)

  pub start-spoiled : (x % ((1 * 2 ^ (8 * m - n)) % 2 ^ 64) ≡ 0 → ⊥) → read_flags n (drop at s) ≡ bad 13
  start-spoiled z = flags-spoiled n at s (rw e at h) x (rw e at q) a (λ w. z (ap (λ (u : ℕ). x % u) unit ∙ w))

  pub start-few : x / ((1 * 2 ^ (8 * m - n)) % 2 ^ 64) < 2 ^ n
  start-few = rw unit (flags-few n at s (rw e at h) x (rw e at q) a)

pub write-is : (n f m : ℕ) → m ≡ bit_bytes n → n ≤ 64 → to_digits 256 m ((f * 2 ^ (8 * m - n)) % 2 ^ 64) ≡ pack (to_digits 2 n f)
unfolding bit_bytes
write-is n f m e few =
    bytes-of-word m (f * 2 ^ (8 * m - n)) (omega arith) ∙ ap (λ (k : ℕ). to_digits 256 k (f * 2 ^ (8 * k - n))) e ∙ sym (pack-digits n f)
