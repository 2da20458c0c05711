-- Eight digits as one number, the first lowest: ten times each and the next is a pair, in every second byte; of pairs it makes fours, of fours all eight.
-- The masks leave the parts that are whole, and no part runs into the next.
use Prim.Native.Nat.{◌%◌, ◌*◌, ◌+◌, ◌/◌, ◌<◌, ◌≤◌, ℕ}
use native.Mathlib.Nat.{mod-lt}
use native.Mathlib.Omega.{arith}
use mathlib.Core.List.{List, [], ◌∷◌, map}
use mathlib.Core.Path.{◌∙◌, ◌≡◌, ap, ap₂, refl}
use lib.Arith.{digits_mod}
use lib.Bits.{and_block, and_le_r, and_mask, bit_and}
use lib.Dec.{lit<}
use lib.ListN.{length}
use Rattle.eights.proofs.Turning.{lower-pairs, lowers, of-eight}
use Rattle.eights.specs.Lowest.{of_lowest}
use Rattle.lowest.specs.Lowest.{DecimalIs, low_half}
use Rattle.number.specs.Number.{of_digits}
use Rattle.table.specs.All.{AreBytes}

-- ---- what `decimal_lowest` does to a number

abbrev pub halves_of : ℕ → ℕ
halves_of x = bit_and x 1085102592571150095

abbrev pub pairs_of : ℕ → ℕ
pairs_of t = bit_and (t * 10 + t / 256) 71777214294589695

abbrev pub fours_of : ℕ → ℕ
fours_of a = bit_and (a * 100 + a / 65536) 281470681808895

abbrev all_of : ℕ → ℕ
all_of b = (b * 10000 + b / 4294967296) % 4294967296

pub halves-le : (x : ℕ) → halves_of x ≤ 1085102592571150095
halves-le x = and_le_r x 1085102592571150095

pub pairs-le : (t : ℕ) → pairs_of t ≤ 71777214294589695
pairs-le t = and_le_r (t * 10 + t / 256) 71777214294589695

pub fours-le : (a : ℕ) → fours_of a ≤ 281470681808895
fours-le a = and_le_r (a * 100 + a / 65536) 281470681808895

-- ---- the low half of each byte

low_halves : (p : List ℕ) → AreBytes p → bit_and (of_lowest p) (of_lowest (map (λ (b : ℕ). 15) p)) ≡ of_lowest (map low_half p)
unfolding of_lowest low_half
low_halves [] a = refl
low_halves (b ∷ p) (b<, a) =
    let m : ℕ = of_lowest (map (λ (b : ℕ). 15) p) in
    let whole : b + 256 * of_lowest p ≡ of_lowest p * 256 + b = omega arith in
    let mask : 15 + 256 * m ≡ m * 256 + 15 = omega arith in
    ap₂ bit_and whole mask
    ∙ and_block 8 (of_lowest p) m b 15 b< (lit< tt)
    ∙ ap₂ (λ (u v : ℕ). u * 256 + v) (low_halves p a) (and_mask b 4)
    ∙ omega arith

-- ---- pairs

pairs : (a b c d e f g h : ℕ) → a < 16 → b < 16 → c < 16 → d < 16 → e < 16 → f < 16 → g < 16 → h < 16 → (t : ℕ)
    → t ≡ a + 256 * (b + 256 * (c + 256 * (d + 256 * (e + 256 * (f + 256 * (g + 256 * h))))))
    → pairs_of t ≡ (((g * 10 + h) * 65536 + (e * 10 + f)) * 65536 + (c * 10 + d)) * 65536 + (a * 10 + b)
pairs a b c d e f g h a< b< c< d< e< f< g< h< t q =
    let next : t / 256 ≡ b + 256 * (c + 256 * (d + 256 * (e + 256 * (f + 256 * (g + 256 * h))))) = omega arith in
    lowers (a * 10 + b) (b * 10 + c) (c * 10 + d) (d * 10 + e) (e * 10 + f) (f * 10 + g) (g * 10 + h) (h * 10)
    (omega arith) (omega arith) (omega arith) (omega arith) (omega arith) (omega arith) (omega arith) (t * 10 + t / 256) (omega arith)

-- ---- fours, and all eight

fours : (p q r s : ℕ) → p < 256 → q < 256 → r < 256 → s < 256 → (t : ℕ) → t ≡ ((s * 65536 + r) * 65536 + q) * 65536 + p
    → fours_of t ≡ (r * 100 + s) * 4294967296 + (p * 100 + q)
fours p q r s p< q< r< s< t e =
    let next : t / 65536 ≡ (s * 65536 + r) * 65536 + q = omega arith in
    let sum : t * 100 + t / 65536 ≡ ((s * 100 * 65536 + (r * 100 + s)) * 65536 + (q * 100 + r)) * 65536 + (p * 100 + q) = omega arith in
    lower-pairs (s * 100) (r * 100 + s) (q * 100 + r) (p * 100 + q) (omega arith) (omega arith) (omega arith) _ sum

all-eight : (u v t : ℕ) → u < 65536 → v < 65536 → t ≡ v * 4294967296 + u → all_of t ≡ u * 10000 + v
all-eight u v t u< v< e =
    let next : t / 4294967296 ≡ v = omega arith in
    let sum : t * 10000 + t / 4294967296 ≡ v * 10000 * 4294967296 + (u * 10000 + v) = omega arith in
    ap (λ (x : ℕ). x % 4294967296) sum ∙ digits_mod (v * 10000) (omega arith)

digits-eight : (a b c d e f g h : ℕ) → a < 16 → b < 16 → c < 16 → d < 16 → e < 16 → f < 16 → g < 16 → h < 16 → (t : ℕ)
    → t ≡ of_lowest (a ∷ b ∷ c ∷ d ∷ e ∷ f ∷ g ∷ h ∷ []) → all_of (fours_of (pairs_of t)) ≡ of_digits 10 0 (a ∷ b ∷ c ∷ d ∷ e ∷ f ∷ g ∷ h ∷ [])
unfolding of_lowest of_digits
digits-eight a b c d e f g h a< b< c< d< e< f< g< h< t q =
    let twos = pairs a b c d e f g h a< b< c< d< e< f< g< h< t (omega arith) in
    let four = fours (a * 10 + b) (c * 10 + d) (e * 10 + f) (g * 10 + h) (omega arith) (omega arith) (omega arith) (omega arith) (pairs_of t) twos in
    all-eight ((a * 10 + b) * 100 + (c * 10 + d)) ((e * 10 + f) * 100 + (g * 10 + h)) _ (omega arith) (omega arith) four ∙ spelled a b c d e f g h
  where
    spelled : (a b c d e f g h : ℕ) → ((a * 10 + b) * 100 + (c * 10 + d)) * 10000 + ((e * 10 + f) * 100 + (g * 10 + h)) ≡ of_digits 10 0 (a ∷ b ∷ c ∷ d ∷ e ∷ f ∷ g ∷ h ∷ [])
    spelled a b c d e f g h = omega arith

eight-law : (p : List ℕ) → length p ≡ 8 → AreBytes p → all_of (fours_of (pairs_of (halves_of (of_lowest p)))) ≡ of_digits 10 0 (map low_half p)
eight-law = of-eight (λ p. AreBytes p → all_of (fours_of (pairs_of (halves_of (of_lowest p)))) ≡ of_digits 10 0 (map low_half p)) eight
  where
    small : (b : ℕ) → low_half b < 16
    small b = unfold low_half in omega arith

    masked : (a b c d e f g h : ℕ) → AreBytes (a ∷ b ∷ c ∷ d ∷ e ∷ f ∷ g ∷ h ∷ [])
        → halves_of (of_lowest (a ∷ b ∷ c ∷ d ∷ e ∷ f ∷ g ∷ h ∷ [])) ≡ of_lowest (map low_half (a ∷ b ∷ c ∷ d ∷ e ∷ f ∷ g ∷ h ∷ []))
    masked a b c d e f g h are = unfold of_lowest in low_halves (a ∷ b ∷ c ∷ d ∷ e ∷ f ∷ g ∷ h ∷ []) are

    eight : (a b c d e f g h : ℕ) → AreBytes (a ∷ b ∷ c ∷ d ∷ e ∷ f ∷ g ∷ h ∷ [])
        → all_of (fours_of (pairs_of (halves_of (of_lowest (a ∷ b ∷ c ∷ d ∷ e ∷ f ∷ g ∷ h ∷ []))))) ≡ of_digits 10 0 (map low_half (a ∷ b ∷ c ∷ d ∷ e ∷ f ∷ g ∷ h ∷ []))
    eight a b c d e f g h are =
        digits-eight (low_half a) (low_half b) (low_half c) (low_half d) (low_half e) (low_half f) (low_half g) (low_half h)
        (small a) (small b) (small c) (small d) (small e) (small f) (small g) (small h) _ (masked a b c d e f g h are)

pub decimal-is : (x : ℕ) → DecimalIs x (all_of (fours_of (pairs_of (halves_of x))))
decimal-is x = record { decimal = λ p l a e. ap (λ (y : ℕ). all_of (fours_of (pairs_of (halves_of y)))) e ∙ eight-law p l a; below = mod-lt _ (lit< tt) }
