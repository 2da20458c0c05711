-- Eight bytes as one number: what is done to the number is done to each byte.
use Prim.Native.Nat.{◌*◌, ◌+◌, ◌<◌, ◌^◌, suc, zero, ℕ}
use native.Mathlib.Nat.{pow-succ'}
use native.Mathlib.Omega.{arith}
use mathlib.Core.Bool.{Bool, cond, false, true}
use mathlib.Core.List.{List, [], ◌∷◌, map}
use mathlib.Core.Path.{◌∙◌, ◌≡◌, ap, ap₂, refl, sym}
use lib.Bits.{and_block, and_le_r, bit_and, bit_or, bit_xor, or_block, or_lt, xor_block, xor_lt}
use lib.Dec.{eqb, lit<}
use lib.ListN.{length, replicate}
use lib.Pow.{pow-add}
use borrow.Author.Tests.{eqb-true}
use Rattle.number.specs.Number.{of_digits}
use Rattle.table.proofs.Laws.{each_below}
use Rattle.table.specs.All.{AreBytes}
use Rattle.eights.specs.Marks.{is_letter, mark}

-- ---- an operation that goes byte by byte

abbrev Bounded : (ℕ → ℕ) → Type 0
Bounded f = (d : ℕ) → d < 256 → f d < 256

module _ (op : ℕ → ℕ → ℕ) (block : (a b r s : ℕ) → r < 256 → s < 256 → op (a * 256 + r) (b * 256 + s) ≡ op a b * 256 + op r s) where
  pub lanes : (f g : ℕ → ℕ) → Bounded f → Bounded g → (a b : ℕ) (ds : List ℕ) → AreBytes ds
      → op (of_digits 256 a (map f ds)) (of_digits 256 b (map g ds)) ≡ of_digits 256 (op a b) (map (λ (d : ℕ). op (f d) (g d)) ds)
  unfolding of_digits
  lanes f g p q a b [] h = refl
  lanes f g p q a b (d ∷ ds) h =
      lanes f g p q (a * 256 + f d) (b * 256 + g d) ds h.1
      ∙ ap (λ (k : ℕ). of_digits 256 k (map (λ (d : ℕ). op (f d) (g d)) ds)) (block a b (f d) (g d) (p d h.0) (q d h.0))

pub and-lanes : (f g : ℕ → ℕ) → Bounded f → Bounded g → (ds : List ℕ) → AreBytes ds
    → bit_and (of_digits 256 0 (map f ds)) (of_digits 256 0 (map g ds)) ≡ of_digits 256 0 (map (λ (d : ℕ). bit_and (f d) (g d)) ds)
and-lanes f g p q ds h = lanes bit_and (λ a b r s u v. and_block 8 a b r s u v) f g p q 0 0 ds h

pub or-lanes : (f g : ℕ → ℕ) → Bounded f → Bounded g → (ds : List ℕ) → AreBytes ds
    → bit_or (of_digits 256 0 (map f ds)) (of_digits 256 0 (map g ds)) ≡ of_digits 256 0 (map (λ (d : ℕ). bit_or (f d) (g d)) ds)
or-lanes f g p q ds h = lanes bit_or (λ a b r s u v. or_block 8 a b r s u v) f g p q 0 0 ds h

pub xor-lanes : (f g : ℕ → ℕ) → Bounded f → Bounded g → (ds : List ℕ) → AreBytes ds
    → bit_xor (of_digits 256 0 (map f ds)) (of_digits 256 0 (map g ds)) ≡ of_digits 256 0 (map (λ (d : ℕ). bit_xor (f d) (g d)) ds)
xor-lanes f g p q ds h = lanes bit_xor (λ a b r s u v. xor_block 8 a b r s u v) f g p q 0 0 ds h

pub add-lanes : (f g : ℕ → ℕ) → Bounded f → Bounded g → (ds : List ℕ) → AreBytes ds
    → of_digits 256 0 (map f ds) + of_digits 256 0 (map g ds) ≡ of_digits 256 0 (map (λ (d : ℕ). f d + g d) ds)
add-lanes f g p q ds h = lanes ◌+◌ (λ a b r s u v. omega arith) f g p q 0 0 ds h

-- ---- one byte eight times, the bytes themselves, and bytes that are the same

map-const : (v : ℕ) (ds : List ℕ) → map (λ (d : ℕ). v) ds ≡ replicate (length ds) v
map-const v [] = refl
map-const v (d ∷ ds) = ap {B = List ℕ} (λ l. v ∷ l) (map-const v ds)

map_same : (ds : List ℕ) → map (λ (d : ℕ). d) ds ≡ ds
map_same [] = refl
map_same (d ∷ ds) = ap {B = List ℕ} (λ l. d ∷ l) (map_same ds)

pub map-agree : (f g : ℕ → ℕ) → ((d : ℕ) → d < 256 → f d ≡ g d) → (ds : List ℕ) → AreBytes ds → map f ds ≡ map g ds
map-agree f g e [] h = refl
map-agree f g e (d ∷ ds) h = ap₂ (λ (x : ℕ) (l : List ℕ). x ∷ l) (e d h.0) (map-agree f g e ds h.1)

pub eight-of : (v w : ℕ) (ds : List ℕ) → length ds ≡ 8 → of_digits 256 0 (replicate 8 v) ≡ w → w ≡ of_digits 256 0 (map (λ (d : ℕ). v) ds)
eight-of v w ds l e = sym (ap (of_digits 256 0) (map-const v ds ∙ ap (λ (n : ℕ). replicate n v) l) ∙ e)

pub themselves : (ds : List ℕ) → of_digits 256 0 ds ≡ of_digits 256 0 (map (λ (d : ℕ). d) ds)
themselves ds = ap (of_digits 256 0) (sym (map_same ds))

-- ---- letters

letter-byte : (d : ℕ) → d < 256 → bit_and (bit_or (bit_xor (bit_and d 127 + 127) 128) d) 128 ≡ mark is_letter d
unfolding mark is_letter
letter-byte d h = eqb-true _ _ (each_below (λ (d : ℕ). eqb (bit_and (bit_or (bit_xor (bit_and d 127 + 127) 128) d) 128) (mark is_letter d)) 256 refl d h)

pub letters-marked : (x : ℕ) (ds : List ℕ) → length ds ≡ 8 → AreBytes ds → x ≡ of_digits 256 0 ds
    → bit_and (bit_or (bit_xor (bit_and x 9187201950435737471 + 9187201950435737471) 9259542123273814144) x) 9259542123273814144 ≡ of_digits 256 0 (map (mark is_letter) ds)
letters-marked x ds l a e =
    let own : x ≡ of_digits 256 0 (map (λ (d : ℕ). d) ds) = e ∙ themselves ds in
    let rest : 9187201950435737471 ≡ of_digits 256 0 (map (λ (d : ℕ). 127) ds) = eight-of 127 _ ds l (unfold of_digits in refl) in
    let tops : 9259542123273814144 ≡ of_digits 256 0 (map (λ (d : ℕ). 128) ds) = eight-of 128 _ ds l (unfold of_digits in refl) in
    let low : Bounded (λ (d : ℕ). bit_and d 127) = λ d h. omega (arith, and_le_r d 127) in
    let sum : Bounded (λ (d : ℕ). bit_and d 127 + 127) = λ d h. omega (arith, and_le_r d 127) in
    let turned : Bounded (λ (d : ℕ). bit_xor (bit_and d 127 + 127) 128) = λ d h. xor_lt 8 (bit_and d 127 + 127) 128 (sum d h) (lit< tt) in
    let both : Bounded (λ (d : ℕ). bit_or (bit_xor (bit_and d 127 + 127) 128) d) = λ d h. or_lt 8 (bit_xor (bit_and d 127 + 127) 128) d (turned d h) h in
    ap₂ bit_and
    (ap₂ bit_or
    (ap₂ bit_xor
    (ap₂ ◌+◌ (ap₂ bit_and own rest ∙ and-lanes (λ d. d) (λ d. 127) (λ d h. h) (λ d h. lit< tt) ds a) rest
    ∙ add-lanes (λ d. bit_and d 127) (λ d. 127) low (λ d h. lit< tt) ds a)
    tops
    ∙ xor-lanes (λ d. bit_and d 127 + 127) (λ d. 128) sum (λ d h. lit< tt) ds a)
    own
    ∙ or-lanes (λ d. bit_xor (bit_and d 127 + 127) 128) (λ d. d) turned (λ d h. h) ds a)
    tops
    ∙ and-lanes (λ d. bit_or (bit_xor (bit_and d 127 + 127) 128) d) (λ d. 128) both (λ d h. lit< tt) ds a
    ∙ ap (of_digits 256 0) (map-agree _ _ letter-byte ds a)

-- ---- as many bits as bytes have

pub pow-bytes : (n : ℕ) → 2 ^ (8 * n) ≡ 256 ^ n
pow-bytes zero = refl
pow-bytes (suc n) =
    let e : 8 * suc n ≡ 8 + 8 * n = omega arith in
    ap (λ (k : ℕ). 2 ^ k) e ∙ pow-add 2 8 (8 * n) ∙ ap (λ (k : ℕ). 256 * k) (pow-bytes n) ∙ sym (pow-succ' 256 n)

-- ---- marks are bytes

mark-lt : (test : ℕ → Bool) (d : ℕ) → mark test d < 256
unfolding mark
mark-lt test d = by (test d)
  where
    by : (t : Bool) → cond t 0 128 < 256
    by true = lit< tt
    by false = lit< tt

pub marks-bytes : (test : ℕ → Bool) (ds : List ℕ) → AreBytes (map (mark test) ds)
marks-bytes test [] = tt
marks-bytes test (d ∷ ds) = (mark-lt test d, marks-bytes test ds)
