-- A quotient in each part of a number, by one product, one shift and one mask.
use Prim.Native.Nat.{◌%◌, ◌*◌, ◌+◌, ◌/◌, ◌<◌, ℕ}
use native.Mathlib.Nat.{mod-lt}
use native.Mathlib.Omega.{arith}
use mathlib.Core.List.{[], ◌∷◌}
use mathlib.Core.Path.{◌∙◌, ◌≡◌, ap, ap₂}
use lib.Bits.{and_block, and_mask, bit_and}
use lib.Dec.{lit<}
use Rattle.eights.specs.Parts.{four_parts, pair}
use Rattle.number.specs.Number.{of_digits, to_digits}

-- of one part
hundreds : (x : ℕ) → x < 10000 → x * 5243 / 524288 ≡ x / 100
hundreds x h = omega arith

-- what the product and the shift leave: the upper quotient and more, then the lower
shifted : (h l : ℕ) → l < 10000 → (h * 4294967296 + l) * 5243 / 524288 ≡ h * 42950656 + l / 100
shifted h l k = omega (arith, hundreds l k)

upper : (h l : ℕ) → h < 10000 → l < 10000 → (h * 42950656 + l / 100) / 4294967296 ≡ h / 100
upper h l k m = omega (arith, hundreds h k)

lower : (h l : ℕ) → h < 10000 → l < 10000 → (h * 42950656 + l / 100) % 4294967296 % 128 ≡ l / 100
lower h l k m = omega arith

pub two-quotients : (h l : ℕ) → h < 10000 → l < 10000 → bit_and ((h * 4294967296 + l) * 5243 / 524288) 545460846719 ≡ h / 100 * 4294967296 + l / 100
two-quotients h l k m =
    let small : (q : ℕ) → q ≡ h / 100 → q % 128 ≡ h / 100 = λ q e. omega arith in
    let n : ℕ = h * 42950656 + l / 100 in
    let cut : n ≡ n / 4294967296 * 4294967296 + n % 4294967296 = omega arith in
    ap (λ (x : ℕ). bit_and x 545460846719) (shifted h l m ∙ cut)
    ∙ and_block 32 (n / 4294967296) 127 (n % 4294967296) 127 (mod-lt n (lit< tt)) (lit< tt)
    ∙ ap₂ (λ (x y : ℕ). x * 4294967296 + y) (and_mask (n / 4294967296) 7 ∙ small (n / 4294967296) (upper h l k m)) (and_mask (n % 4294967296) 7 ∙ lower h l k m)

pub quarters-law : (x h l : ℕ) → h < 10000 → l < 10000 → x ≡ h * 4294967296 + l
    → x + bit_and (x * 5243 / 524288) 545460846719 * 65436 ≡ four_parts (h / 100) (h % 100) (l / 100) (l % 100)
unfolding four_parts
quarters-law x h l k m e =
    let q : bit_and (x * 5243 / 524288) 545460846719 ≡ h / 100 * 4294967296 + l / 100 =
    ap (λ (j : ℕ). bit_and (j * 5243 / 524288) 545460846719) e ∙ two-quotients h l k m in
    omega (arith, q)

-- ---- four parts

-- the mask takes the last part's quotient off, and leaves the others
part_step : (u x y m : ℕ) → x < 100 → y < 10 → bit_and ((u * 65536 + x) * 6592 + y) (m * 65536 + 15) ≡ bit_and (u * 6592 + x / 10) m * 65536 + y
part_step u x y m h k =
    let n : ℕ = (u * 65536 + x) * 6592 + y in
    let up : n / 65536 ≡ u * 6592 + x / 10 = omega arith in
    let low : n % 65536 % 16 ≡ y = omega arith in
    let cut : n ≡ n / 65536 * 65536 + n % 65536 = omega arith in
    ap (λ (j : ℕ). bit_and j (m * 65536 + 15)) cut
    ∙ and_block 16 (n / 65536) m (n % 65536) 15 (mod-lt n (lit< tt)) (lit< tt)
    ∙ ap₂ (λ (j i : ℕ). bit_and j m * 65536 + i) up (and_mask (n % 65536) 4 ∙ low)

four-quotients : (a b c d : ℕ) → a < 100 → b < 100 → c < 100 → d < 100
    → bit_and (four_parts a b c d * 103 / 1024) 4222189076152335 ≡ four_parts (a / 10) (b / 10) (c / 10) (d / 10)
unfolding four_parts
four-quotients a b c d h k l m =
    let tens : four_parts a b c d * 103 / 1024 ≡ ((a * 65536 + b) * 65536 + c) * 6592 + d / 10 = omega arith in
    let top : bit_and (a / 10) 15 ≡ a / 10 = and_mask (a / 10) 4 ∙ omega arith in
    let first : a * 6592 + b / 10 ≡ (0 * 65536 + a) * 6592 + b / 10 = omega arith in
    let none : 0 * 6592 + a / 10 ≡ a / 10 = omega arith in
    ap (λ (j : ℕ). bit_and j 4222189076152335) tens
    ∙ part_step (a * 65536 + b) c (d / 10) 64425492495 l (omega arith)
    ∙ ap (λ (j : ℕ). j * 65536 + d / 10)
    (part_step a b (c / 10) 983055 k (omega arith)
    ∙ ap (λ (j : ℕ). j * 65536 + c / 10)
    (ap (λ (j : ℕ). bit_and j 983055) first ∙ part_step 0 a (b / 10) 15 h (omega arith) ∙ ap (λ (j : ℕ). j * 65536 + b / 10) (ap (λ (j : ℕ). bit_and j 15) none ∙ top)))

pub singles-law : (x a b c d : ℕ) → a < 100 → b < 100 → c < 100 → d < 100 → x ≡ four_parts a b c d
    → x + bit_and (x * 103 / 1024) 4222189076152335 * 246 ≡ four_parts (pair a) (pair b) (pair c) (pair d)
unfolding four_parts pair
singles-law x a b c d h k l m e =
    let q : bit_and (x * 103 / 1024) 4222189076152335 ≡ four_parts (a / 10) (b / 10) (c / 10) (d / 10) =
    ap (λ (j : ℕ). bit_and (j * 103 / 1024) 4222189076152335) e ∙ four-quotients a b c d h k l m in
    omega (arith, q, e)

-- ---- eight digits

side_by_side : (a b c d e f g h : ℕ) → ((((a * 256 + b) * 65536 + (c * 256 + d)) * 65536 + (e * 256 + f)) * 65536 + (g * 256 + h)) ≡ of_digits 256 0 (a ∷ b ∷ c ∷ d ∷ e ∷ f ∷ g ∷ h ∷ [])
unfolding of_digits
side_by_side a b c d e f g h = omega arith

digit-7 : (v : ℕ) → v < 100000000 → v / 10000 / 100 / 10 ≡ v / 10000000 % 10
digit-7 v h = omega arith

digit-6 : (v : ℕ) → v / 10000 / 100 % 10 ≡ v / 1000000 % 10
digit-6 v = omega arith

digit-5 : (v : ℕ) → v / 10000 % 100 / 10 ≡ v / 100000 % 10
digit-5 v = omega arith

digit-4 : (v : ℕ) → v / 10000 % 100 % 10 ≡ v / 10000 % 10
digit-4 v = omega arith

digit-3 : (v : ℕ) → v % 10000 / 100 / 10 ≡ v / 1000 % 10
digit-3 v = omega arith

digit-2 : (v : ℕ) → v % 10000 / 100 % 10 ≡ v / 100 % 10
digit-2 v = omega arith

digit-1 : (v : ℕ) → v % 10000 % 100 / 10 ≡ v / 10 % 10
digit-1 v = omega arith

digit-0 : (v : ℕ) → v % 10000 % 100 % 10 ≡ v / 1 % 10
digit-0 v = omega arith

pub eight_is : (v : ℕ) → v < 100000000
    → four_parts (pair (v / 10000 / 100)) (pair (v / 10000 % 100)) (pair (v % 10000 / 100)) (pair (v % 10000 % 100)) ≡ of_digits 256 0 (to_digits 10 8 v)
unfolding four_parts pair to_digits
eight_is v h =
    side_by_side (v / 10000 / 100 / 10) (v / 10000 / 100 % 10) (v / 10000 % 100 / 10) (v / 10000 % 100 % 10) (v % 10000 / 100 / 10) (v % 10000 / 100 % 10) (v % 10000 % 100 / 10) (v % 10000 % 100 % 10)
    ∙ ap (of_digits 256 0) (rw (digit-7 v h, digit-6 v, digit-5 v, digit-4 v, digit-3 v, digit-2 v, digit-1 v, digit-0 v))

-- four numbers below 100 stay below 2 ^ 56
pub parts-lt : (r a b c d : ℕ) → a < 100 → b < 100 → c < 100 → d < 100 → r ≡ four_parts a b c d → r < 72057594037927936
unfolding four_parts
parts-lt r a b c d h k l m e = omega (arith, e)
