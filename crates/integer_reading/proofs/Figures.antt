-- Digits, eight at once: those at the front of eight characters, and the number that they spell in another base. In a pair of digits of base 256 the
-- upper one counts 256 - b times too much for base b; what is so for digits is so for pairs, and for fours.
use Prim.Native.Nat.{◌*◌, ◌+◌, ◌-◌, ◌/◌, ◌<◌, ◌^◌, ◌≤◌, suc, zero, ℕ}
use native.Mathlib.Nat.{add-zero, div-div-eq-div-mul, zero-mul}
use native.Mathlib.Omega.{arith}
use mathlib.Core.Bool.{true}
use mathlib.Core.List.{List, [], ◌++◌, ◌∷◌, map}
use mathlib.Core.Path.{◌∙◌, ◌≡◌, ap, ap₂, refl, sym}
use lib.Arith.{digits_div}
use lib.Bits.{bit_and, bit_xor}
use lib.Dec.{eqb, lit<}
use borrow.Author.Tests.{eqb-true}
use lib.ListN.{drop, length, length-append, length-drop, length-map, length-replicate, replicate, take, take-append-drop}
use lib.Pow.{pow-add}
use Rattle.binary.proofs.Digits.{map-join, take-map}
use Rattle.integer_reading.proofs.Lanes.{differing, eight, own}
use Rattle.integer_reading.specs.Figures.{figures}
use Rattle.eights.proofs.Lanes.{pow-bytes}
use Rattle.eights.proofs.Turning.{lower-pairs, lowers, of-eight}
use Rattle.number.proofs.Laws.{of-append, of-from, of_lt}
use Rattle.number.specs.Number.{of_digits}
use Rattle.table.proofs.Laws.{all_append, all_drop, all_replicate, each_below}
use Rattle.table.specs.All.{All, AreBytes}

-- ---- digits of a base that has no letters, and what they stand for

abbrev pub InBase : ℕ → ℕ → Type 0
InBase b c = (48 ≤ c) × (c < 48 + b)

pub figure-is : (b c : ℕ) → b ≤ 10 → InBase b c → bit_xor c 48 ≡ c - 48
figure-is b c h i = eqb-true _ _ (low (c - 48) (omega arith) c (omega arith))
  where
    low : (d : ℕ) → d < 10 → (c : ℕ) → c ≡ d + 48 → eqb (bit_xor c 48) (c - 48) ≡ true
    low d h c e = rw e (each_below (λ (d : ℕ). eqb (bit_xor (d + 48) 48) (d + 48 - 48)) 10 refl d h)

pub figures-are : (b : ℕ) (w : List ℕ) → b ≤ 10 → All (InBase b) w → map (λ (c : ℕ). bit_xor c 48) w ≡ figures w
unfolding figures
figures-are b [] h a = refl
figures-are b (c ∷ w) h a = ap₂ (λ (d : ℕ) (t : List ℕ). d ∷ t) (figure-is b c h a.0) (figures-are b w h a.1)

pub figures-below : (b : ℕ) (w : List ℕ) → All (InBase b) w → All (λ (d : ℕ). d < b) (figures w)
unfolding figures
figures-below b [] a = tt
figures-below b (c ∷ w) a = (omega (arith, a.0), figures-below b w a.1)

pub length-figures : (w : List ℕ) → length (figures w) ≡ length w
unfolding figures
length-figures w = length-map w (λ (c : ℕ). c - 48)

pub figures-join : (w v : List ℕ) → figures (w ++ v) ≡ figures w ++ figures v
unfolding figures
figures-join w v = map-join (λ (c : ℕ). c - 48) w v

-- ---- the first of eight digits

bytes-map : (f : ℕ → ℕ) → ((d : ℕ) → d < 256 → f d < 256) → (p : List ℕ) → AreBytes p → AreBytes (map f p)
bytes-map f h [] a = tt
bytes-map f h (d ∷ p) a = (h d a.0, bytes-map f h p a.1)

front-digits : (q : List ℕ) (n : ℕ) → AreBytes q → length q ≡ 8 → n ≤ 8 → of_digits 256 0 q / 256 ^ (8 - n) ≡ of_digits 256 0 (take n q)
front-digits q n a l h =
    let few : length (drop n q) ≡ 8 - n = length-drop n q ∙ ap (λ (k : ℕ). k - n) l in
    let below : of_digits 256 0 (drop n q) < 256 ^ (8 - n) = rw few at (of_lt 256 (lit< tt) (drop n q) (all_drop _ n q a)) in
    ap (λ (x : ℕ). x / 256 ^ (8 - n))
    (ap (of_digits 256 0) (sym (take-append-drop n q)) ∙ of-append 256 0 (take n q) (drop n q) ∙ of-from 256 (of_digits 256 0 (take n q)) (drop n q)
    ∙ ap (λ (k : ℕ). of_digits 256 0 (take n q) * 256 ^ k + of_digits 256 0 (drop n q)) few)
    ∙ digits_div (of_digits 256 0 (take n q)) below

pub leading-law : (x n : ℕ) (p : List ℕ) → n ≤ 8 → length p ≡ 8 → AreBytes p → x ≡ of_digits 256 0 p
    → bit_xor x 3472328296227680304 / 2 ^ (64 - 8 * n) ≡ of_digits 256 0 (map (λ (c : ℕ). bit_xor c 48) (take n p))
unfolding of_digits
leading-law x n p h l a e =
    let turned = differing p l a (own p l a e) (eight p l a 48 refl (lit< tt)) in
    let q : List ℕ = map (λ (c : ℕ). bit_xor c 48) p in
    let places : 64 - 8 * n ≡ 8 * (8 - n) = omega arith in
    ap₂ (λ (y k : ℕ). y / k) turned.is (ap (λ (k : ℕ). 2 ^ k) places ∙ pow-bytes (8 - n))
    ∙ front-digits q n (bytes-map _ turned.small p a) (length-map p (λ (c : ℕ). bit_xor c 48) ∙ l) h
    ∙ ap (of_digits 256 0) (take-map (λ (c : ℕ). bit_xor c 48) n p)

-- fewer than eight: in two steps, since a shift by all of them is none
pub few-law : (x n : ℕ) (p : List ℕ) → n ≤ 7 → length p ≡ 8 → AreBytes p → x ≡ of_digits 256 0 p
    → bit_xor x 3472328296227680304 / 256 / 2 ^ (56 - 8 * n) ≡ of_digits 256 0 (map (λ (c : ℕ). bit_xor c 48) (take n p))
few-law x n p h l a e =
    let places : 8 + (56 - 8 * n) ≡ 64 - 8 * n = omega arith in
    div-div-eq-div-mul (bit_xor x 3472328296227680304) 256 (2 ^ (56 - 8 * n))
    ∙ ap (λ (k : ℕ). bit_xor x 3472328296227680304 / k) (sym (pow-add 2 8 (56 - 8 * n)) ∙ ap (λ (k : ℕ). 2 ^ k) places)
    ∙ leading-law x n p (omega arith) l a e

-- ---- the upper half of each pair

uppers : (a b c d e f g h : ℕ) → a < 256 → b < 256 → c < 256 → d < 256 → e < 256 → f < 256 → g < 256 → h < 256 → (t : ℕ)
    → t ≡ (((((((a * 256 + b) * 256 + c) * 256 + d) * 256 + e) * 256 + f) * 256 + g) * 256 + h)
    → bit_and (t / 256) 71777214294589695 ≡ ((a * 65536 + c) * 65536 + e) * 65536 + g
uppers a b c d e f g h a< b< c< d< e< f< g< h< t q =
    lowers g f e d c b a 0 g< f< e< d< c< b< a< (t / 256) (omega arith)

-- of each four
upper-pairs : (p q r s : ℕ) → p < 65536 → q < 65536 → r < 65536 → s < 65536 → (t : ℕ) → t ≡ ((p * 65536 + q) * 65536 + r) * 65536 + s
    → bit_and (t / 65536) 281470681808895 ≡ p * 4294967296 + r
upper-pairs p q r s p< q< r< s< t e = lower-pairs 0 p q r p< q< r< (t / 65536) (omega arith)

-- ---- eight digits read in base 2 and in base 10

-- what `binary_of` does to a number
abbrev pub binary_of : ℕ → ℕ
binary_of t =
    let a : ℕ = t - bit_and (t / 256) 71777214294589695 * 254 in
    let b : ℕ = a - bit_and (a / 65536) 281470681808895 * 65532 in
    b - b / 4294967296 * 4294967280

binary-halves : (u v y : ℕ) → v < 4294967296 → y ≡ u * 4294967296 + v → y - y / 4294967296 * 4294967280 ≡ u * 16 + v
binary-halves u v y h e = omega arith

binary-eight : (a b c d e f g h : ℕ) → AreBytes (a ∷ b ∷ c ∷ d ∷ e ∷ f ∷ g ∷ h ∷ []) → (t : ℕ) → t ≡ of_digits 256 0 (a ∷ b ∷ c ∷ d ∷ e ∷ f ∷ g ∷ h ∷ [])
    → binary_of t ≡ of_digits 2 0 (a ∷ b ∷ c ∷ d ∷ e ∷ f ∷ g ∷ h ∷ [])
unfolding of_digits
binary-eight a b c d e f g h (a<, (b<, (c<, (d<, (e<, (f<, (g<, (h<, _)))))))) t q =
    let x : ℕ = t - bit_and (t / 256) 71777214294589695 * 254 in
    let pairs : x ≡ (((a * 2 + b) * 65536 + (c * 2 + d)) * 65536 + (e * 2 + f)) * 65536 + (g * 2 + h) = omega (arith, uppers a b c d e f g h a< b< c< d< e< f< g< h< t (omega arith)) in
    let y : ℕ = x - bit_and (x / 65536) 281470681808895 * 65532 in
    let fours : y ≡ ((a * 2 + b) * 4 + (c * 2 + d)) * 4294967296 + ((e * 2 + f) * 4 + (g * 2 + h)) =
    omega (arith, upper-pairs (a * 2 + b) (c * 2 + d) (e * 2 + f) (g * 2 + h) (omega arith) (omega arith) (omega arith) (omega arith) x pairs) in
    let all : ((a * 2 + b) * 4 + (c * 2 + d)) * 16 + ((e * 2 + f) * 4 + (g * 2 + h)) ≡ of_digits 2 0 (a ∷ b ∷ c ∷ d ∷ e ∷ f ∷ g ∷ h ∷ []) = spelled a b c d e f g h in
    binary-halves ((a * 2 + b) * 4 + (c * 2 + d)) ((e * 2 + f) * 4 + (g * 2 + h)) y (omega arith) fours ∙ all
  where
    spelled : (a b c d e f g h : ℕ) → ((a * 2 + b) * 4 + (c * 2 + d)) * 16 + ((e * 2 + f) * 4 + (g * 2 + h)) ≡ of_digits 2 0 (a ∷ b ∷ c ∷ d ∷ e ∷ f ∷ g ∷ h ∷ [])
    spelled a b c d e f g h = omega arith

-- what `decimal_of` does to a number
abbrev pub decimal_of : ℕ → ℕ
decimal_of t =
    let a : ℕ = t - bit_and (t / 256) 71777214294589695 * 246 in
    let b : ℕ = a - bit_and (a / 65536) 281470681808895 * 65436 in
    b - b / 4294967296 * 4294957296

decimal-halves : (u v y : ℕ) → v < 4294967296 → y ≡ u * 4294967296 + v → y - y / 4294967296 * 4294957296 ≡ u * 10000 + v
decimal-halves u v y h e = omega arith

decimal-eight : (a b c d e f g h : ℕ) → AreBytes (a ∷ b ∷ c ∷ d ∷ e ∷ f ∷ g ∷ h ∷ []) → (t : ℕ) → t ≡ of_digits 256 0 (a ∷ b ∷ c ∷ d ∷ e ∷ f ∷ g ∷ h ∷ [])
    → decimal_of t ≡ of_digits 10 0 (a ∷ b ∷ c ∷ d ∷ e ∷ f ∷ g ∷ h ∷ [])
unfolding of_digits
decimal-eight a b c d e f g h (a<, (b<, (c<, (d<, (e<, (f<, (g<, (h<, _)))))))) t q =
    let x : ℕ = t - bit_and (t / 256) 71777214294589695 * 246 in
    let pairs : x ≡ (((a * 10 + b) * 65536 + (c * 10 + d)) * 65536 + (e * 10 + f)) * 65536 + (g * 10 + h) = omega (arith, uppers a b c d e f g h a< b< c< d< e< f< g< h< t (omega arith)) in
    let y : ℕ = x - bit_and (x / 65536) 281470681808895 * 65436 in
    let fours : y ≡ ((a * 10 + b) * 100 + (c * 10 + d)) * 4294967296 + ((e * 10 + f) * 100 + (g * 10 + h)) =
    omega (arith, upper-pairs (a * 10 + b) (c * 10 + d) (e * 10 + f) (g * 10 + h) (omega arith) (omega arith) (omega arith) (omega arith) x pairs) in
    let all : ((a * 10 + b) * 100 + (c * 10 + d)) * 10000 + ((e * 10 + f) * 100 + (g * 10 + h)) ≡ of_digits 10 0 (a ∷ b ∷ c ∷ d ∷ e ∷ f ∷ g ∷ h ∷ []) = spelled a b c d e f g h in
    decimal-halves ((a * 10 + b) * 100 + (c * 10 + d)) ((e * 10 + f) * 100 + (g * 10 + h)) y (omega arith) fours ∙ all
  where
    spelled : (a b c d e f g h : ℕ) → ((a * 10 + b) * 100 + (c * 10 + d)) * 10000 + ((e * 10 + f) * 100 + (g * 10 + h)) ≡ of_digits 10 0 (a ∷ b ∷ c ∷ d ∷ e ∷ f ∷ g ∷ h ∷ [])
    spelled a b c d e f g h = omega arith

-- ---- fewer than eight: with zeros before them

pub of-zeros : (b k : ℕ) (ds : List ℕ) → of_digits b 0 (replicate k 0 ++ ds) ≡ of_digits b 0 ds
unfolding of_digits
of-zeros b zero ds = refl
of-zeros b (suc k) ds = ap (λ (n : ℕ). of_digits b n (replicate k 0 ++ ds)) (add-zero (0 * b) ∙ zero-mul b) ∙ of-zeros b k ds

-- any function that reads eight digits so reads fewer
padded : (f : ℕ → ℕ) (base : ℕ) → ((ds : List ℕ) → length ds ≡ 8 → AreBytes ds → (t : ℕ) → t ≡ of_digits 256 0 ds → f t ≡ of_digits base 0 ds)
    → (t : ℕ) (ds : List ℕ) → length ds ≤ 8 → AreBytes ds → t ≡ of_digits 256 0 ds → f t ≡ of_digits base 0 ds
padded f base reads t ds l a e =
    let k : ℕ = 8 - length ds in
    reads (replicate k 0 ++ ds) (length-append (replicate k 0) ds ∙ omega (arith, length-replicate {A = ℕ} k 0)) (all_append _ (replicate k 0) ds (all_replicate _ k 0 (lit< tt)) a) t
    (e ∙ sym (of-zeros 256 k ds))
    ∙ of-zeros base k ds

pub binary-law : (t : ℕ) (ds : List ℕ) → length ds ≤ 8 → AreBytes ds → t ≡ of_digits 256 0 ds → binary_of t ≡ of_digits 2 0 ds
binary-law = padded binary_of 2 (of-eight (λ ds. AreBytes ds → (t : ℕ) → t ≡ of_digits 256 0 ds → binary_of t ≡ of_digits 2 0 ds) binary-eight)

pub decimal-law : (t : ℕ) (ds : List ℕ) → length ds ≤ 8 → AreBytes ds → t ≡ of_digits 256 0 ds → decimal_of t ≡ of_digits 10 0 ds
decimal-law = padded decimal_of 10 (of-eight (λ ds. AreBytes ds → (t : ℕ) → t ≡ of_digits 256 0 ds → decimal_of t ≡ of_digits 10 0 ds) decimal-eight)
