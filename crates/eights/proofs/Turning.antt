-- Eight bytes turned round: the two of each pair change places, then the two pairs of each four, then the fours. A mask leaves the lower of two neighbours,
-- a shift takes it to the upper one's place, and the other way round; no part runs into the next.
use Prim.Native.Nat.{◌%◌, ◌*◌, ◌+◌, ◌/◌, ◌<◌, ℕ}
use native.Mathlib.Nat.{add_comm, mod-lt}
use native.Mathlib.Omega.{arith}
use mathlib.Core.List.{List, [], ◌∷◌}
use mathlib.Core.Path.{◌∙◌, ◌≡◌, ap, ap₂}
use lib.Arith.{digits_mod}
use lib.Bits.{and_block, and_le_r, and_mask, bit_and}
use lib.Dec.{lit<}
use lib.ListN.{length}
use Rattle.eights.specs.Lowest.{TurnedRound, of_lowest}
use Rattle.number.specs.Number.{of_digits}
use Rattle.table.specs.All.{AreBytes}

-- a list of eight
pub of-eight : (P : List ℕ → Type 0) → ((a b c d e f g h : ℕ) → P (a ∷ b ∷ c ∷ d ∷ e ∷ f ∷ g ∷ h ∷ [])) → (ds : List ℕ) → length ds ≡ 8 → P ds
of-eight P y [] l = absurd (omega arith)
of-eight P y (a ∷ []) l = absurd (omega arith)
of-eight P y (a ∷ b ∷ []) l = absurd (omega arith)
of-eight P y (a ∷ b ∷ c ∷ []) l = absurd (omega arith)
of-eight P y (a ∷ b ∷ c ∷ d ∷ []) l = absurd (omega arith)
of-eight P y (a ∷ b ∷ c ∷ d ∷ e ∷ []) l = absurd (omega arith)
of-eight P y (a ∷ b ∷ c ∷ d ∷ e ∷ f ∷ []) l = absurd (omega arith)
of-eight P y (a ∷ b ∷ c ∷ d ∷ e ∷ f ∷ g ∷ []) l = absurd (omega arith)
of-eight P y (a ∷ b ∷ c ∷ d ∷ e ∷ f ∷ g ∷ h ∷ []) l = y a b c d e f g h
of-eight P y (a ∷ b ∷ c ∷ d ∷ e ∷ f ∷ g ∷ h ∷ i ∷ ds) l = absurd (omega arith)

-- ---- the lower of two neighbours

-- of sixteen bits the mask leaves the lower eight
lower-step : (u f g m : ℕ) → f < 256 → g < 256 → bit_and (u * 65536 + (f * 256 + g)) (m * 65536 + 255) ≡ bit_and u m * 65536 + g
lower-step u f g m h k =
    and_block 16 u m (f * 256 + g) 255 (omega arith) (lit< tt)
    ∙ ap (λ (y : ℕ). bit_and u m * 65536 + y) (and_mask (f * 256 + g) 8 ∙ omega arith)

pub lowers : (a b c d e f g h : ℕ) → a < 256 → b < 256 → c < 256 → d < 256 → e < 256 → f < 256 → g < 256 → (t : ℕ)
    → t ≡ (((h * 256 + g) * 65536 + (f * 256 + e)) * 65536 + (d * 256 + c)) * 65536 + (b * 256 + a)
    → bit_and t 71777214294589695 ≡ ((g * 65536 + e) * 65536 + c) * 65536 + a
lowers a b c d e f g h a< b< c< d< e< f< g< t q =
    let top : bit_and (h * 256 + g) 255 ≡ g = and_mask (h * 256 + g) 8 ∙ omega arith in
    ap (λ (x : ℕ). bit_and x 71777214294589695) q
    ∙ lower-step _ b a 1095233372415 b< a<
    ∙ ap (λ (x : ℕ). x * 65536 + a)
    (lower-step _ d c 16711935 d< c<
    ∙ ap (λ (x : ℕ). x * 65536 + c) (lower-step (h * 256 + g) f e 255 f< e< ∙ ap (λ (x : ℕ). x * 65536 + e) top))

-- of each thirty-two bits the mask leaves the lower sixteen
pub lower-pairs : (p q r s : ℕ) → q < 65536 → r < 65536 → s < 65536 → (t : ℕ) → t ≡ ((p * 65536 + q) * 65536 + r) * 65536 + s
    → bit_and t 281470681808895 ≡ q * 4294967296 + s
lower-pairs p q r s q< r< s< t e =
    let halves : t ≡ (p * 65536 + q) * 4294967296 + (r * 65536 + s) = omega arith in
    ap (λ (x : ℕ). bit_and x 281470681808895) halves
    ∙ and_block 32 (p * 65536 + q) 65535 (r * 65536 + s) 65535 (omega arith) (lit< tt)
    ∙ ap₂ (λ (x y : ℕ). x * 4294967296 + y) (lower p q q<) (lower r s s<)
  where
    lower : (u v : ℕ) → v < 65536 → bit_and (u * 65536 + v) 65535 ≡ v
    lower u v h = and_mask (u * 65536 + v) 16 ∙ digits_mod u h

-- ---- neighbours that change places

abbrev pub bytes_turned : ℕ → ℕ
bytes_turned x = bit_and (x / 256) 71777214294589695 + bit_and x 71777214294589695 * 256 % 18446744073709551616

abbrev pub pairs_turned : ℕ → ℕ
pairs_turned x = bit_and (x / 65536) 281470681808895 + bit_and x 281470681808895 * 65536 % 18446744073709551616

abbrev fours_turned : ℕ → ℕ
fours_turned x = x / 4294967296 + x % 4294967296 * 4294967296

pub bytes_fit : (x : ℕ) → bytes_turned x < 18446744073709551616
bytes_fit x = omega (arith, and_le_r (x / 256) 71777214294589695, and_le_r x 71777214294589695)

pub pairs-fit : (x : ℕ) → pairs_turned x < 18446744073709551616
pairs-fit x = omega (arith, and_le_r (x / 65536) 281470681808895, and_le_r x 281470681808895)

pub fours-fit : (x : ℕ) → x < 18446744073709551616 → fours_turned x < 18446744073709551616
fours-fit x h = sum (x / 4294967296) (x % 4294967296) (omega arith) (mod-lt x (lit< tt))
  where
    sum : (u v : ℕ) → u < 4294967296 → v < 4294967296 → u + v * 4294967296 < 18446744073709551616
    sum u v u< v< = omega arith

bytes-turned : (a b c d e f g h : ℕ) → a < 256 → b < 256 → c < 256 → d < 256 → e < 256 → f < 256 → g < 256 → h < 256 → (x : ℕ)
    → x ≡ (((a * 256 + b) * 65536 + (c * 256 + d)) * 65536 + (e * 256 + f)) * 65536 + (g * 256 + h)
    → bytes_turned x ≡ (((b * 256 + a) * 65536 + (d * 256 + c)) * 65536 + (f * 256 + e)) * 65536 + (h * 256 + g)
bytes-turned a b c d e f g h a< b< c< d< e< f< g< h< x q =
    let next : x / 256 ≡ (((0 * 256 + a) * 65536 + (b * 256 + c)) * 65536 + (d * 256 + e)) * 65536 + (f * 256 + g) = omega arith in
    let upper = lowers g f e d c b a 0 g< f< e< d< c< b< a< (x / 256) next in
    let lower = lowers h g f e d c b a h< g< f< e< d< c< b< x q in
    sums (bit_and (x / 256) 71777214294589695) (bit_and x 71777214294589695) upper lower
  where
    sums : (u l : ℕ) → u ≡ ((a * 65536 + c) * 65536 + e) * 65536 + g → l ≡ ((b * 65536 + d) * 65536 + f) * 65536 + h
        → u + l * 256 % 18446744073709551616 ≡ (((b * 256 + a) * 65536 + (d * 256 + c)) * 65536 + (f * 256 + e)) * 65536 + (h * 256 + g)
    sums u l p q = omega arith

pairs-turned : (p q r s : ℕ) → p < 65536 → q < 65536 → r < 65536 → s < 65536 → (x : ℕ) → x ≡ ((p * 65536 + q) * 65536 + r) * 65536 + s
    → pairs_turned x ≡ (q * 65536 + p) * 4294967296 + (s * 65536 + r)
pairs-turned p q r s p< q< r< s< x e =
    let next : x / 65536 ≡ ((0 * 65536 + p) * 65536 + q) * 65536 + r = omega arith in
    let upper = lower-pairs 0 p q r p< q< r< (x / 65536) next in
    let lower = lower-pairs p q r s q< r< s< x e in
    omega (arith, upper, lower)

fours-turned : (u v x : ℕ) → u < 4294967296 → v < 4294967296 → x ≡ u * 4294967296 + v → fours_turned x ≡ v * 4294967296 + u
fours-turned u v x u< v< e =
    let upper : x / 4294967296 ≡ u = omega arith in
    let lower : x % 4294967296 ≡ v = omega arith in
    ap₂ (λ (p q : ℕ). p + q * 4294967296) upper lower ∙ add_comm u (v * 4294967296)

-- ---- all eight

eight-turned : (a b c d e f g h : ℕ) → AreBytes (a ∷ b ∷ c ∷ d ∷ e ∷ f ∷ g ∷ h ∷ []) → (x : ℕ) → x ≡ of_digits 256 0 (a ∷ b ∷ c ∷ d ∷ e ∷ f ∷ g ∷ h ∷ [])
    → fours_turned (pairs_turned (bytes_turned x)) ≡ of_lowest (a ∷ b ∷ c ∷ d ∷ e ∷ f ∷ g ∷ h ∷ [])
unfolding of_digits of_lowest
eight-turned a b c d e f g h (a<, (b<, (c<, (d<, (e<, (f<, (g<, (h<, _)))))))) x q =
    let ones = bytes-turned a b c d e f g h a< b< c< d< e< f< g< h< x (omega arith) in
    let twos = pairs-turned (b * 256 + a) (d * 256 + c) (f * 256 + e) (h * 256 + g) (omega arith) (omega arith) (omega arith) (omega arith) (bytes_turned x) ones in
    fours-turned ((d * 256 + c) * 65536 + (b * 256 + a)) ((h * 256 + g) * 65536 + (f * 256 + e)) (pairs_turned (bytes_turned x)) (omega arith) (omega arith) twos
    ∙ lowest a b c d e f g h
  where
    lowest : (a b c d e f g h : ℕ)
        → ((h * 256 + g) * 65536 + (f * 256 + e)) * 4294967296 + ((d * 256 + c) * 65536 + (b * 256 + a)) ≡ of_lowest (a ∷ b ∷ c ∷ d ∷ e ∷ f ∷ g ∷ h ∷ [])
    lowest a b c d e f g h = omega arith

pub turned_round : (x : ℕ) → TurnedRound x (fours_turned (pairs_turned (bytes_turned x)))
turned_round x = record {
  turned_round = λ ds l a e.
      of-eight (λ ds. AreBytes ds → (x : ℕ) → x ≡ of_digits 256 0 ds → fours_turned (pairs_turned (bytes_turned x)) ≡ of_lowest ds) eight-turned ds l a x e;
}
