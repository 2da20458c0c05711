-- Bits: bytes whose padding is 0 are the bytes that their bits are packed into.
use Prim.Native.Nat.{◌%◌, ◌*◌, ◌+◌, ◌-◌, ◌/◌, ◌<◌, ◌^◌, ◌≤◌, suc, zero, ℕ}
use native.Mathlib.Omega.{arith}
use mathlib.Core.Bool.{true}
use mathlib.Core.List.{List, [], ◌++◌, ◌∷◌, map}
use mathlib.Core.Path.{◌∙◌, ◌≡◌, ap, ap₂, refl, sym}
use borrow.Author.Tests.{eqb-true}
use lib.Dec.{eqb, lit<}
use lib.IntN.{pos}
use lib.ListN.{drop, get_or, length, length-drop, length-map, replicate, take, take-append-drop}
use lib.Seq.{drop_at, get_or-drop, get_or-take, length-take-le, take_at}
use Rattle.binary.proofs.Digits.{content-bits, length-bits, no-padding, some_of, spare-test, take-map}
use Rattle.binary.specs.Binary.{all_zero, bit_bytes, bit_of, bits_of, bytes_of, content, content_bytes, number, pack, packed}
use Rattle.moving.specs.Contents.{AsBinary, ContentMoved, InBinary, content_form}
use Rattle.moving.specs.Puts.{Puts}
use Rattle.number.proofs.Laws.{all-to, length_to, of-to}
use Rattle.number.specs.Number.{of_digits, to_digits}
use Rattle.table.proofs.Laws.{all_append, all_drop, all_take, and_both}
use Rattle.table.specs.All.{All, AreBytes}
use Rattle.table.specs.Result.{good}
use Rattle.table.specs.Shape.{Bits}

zeros-only : (l : List ℕ) → all_zero l ≡ true → l ≡ replicate (length l) 0
unfolding all_zero
zeros-only [] h = refl
zeros-only (b ∷ l) h =
    let q = and_both (eqb b 0) (all_zero l) h in ap₂ (λ (x : ℕ) (xs : List ℕ). x ∷ xs) (eqb-true b 0 q.0) (zeros-only l q.1)

packed-bits : (p : List ℕ) → AreBytes p → packed (length p) (bits_of p) ≡ p
unfolding packed bits_of
packed-bits [] a = refl
packed-bits (b ∷ p) a =
    let l : length (to_digits 2 8 b) ≡ 8 = length_to 2 8 b in
    ap₂ (λ (x : ℕ) (xs : List ℕ). x ∷ xs)
    (ap (of_digits 2 0) (take_at (to_digits 2 8 b) (bits_of p) 8 l) ∙ of-to 2 (lit< tt) 8 b a.0)
    (ap (packed (length p)) (drop_at (to_digits 2 8 b) (bits_of p) 8 l) ∙ packed-bits p a.1)

-- bits with zeros behind them are all the bits of the bytes
all-bits : (p : List ℕ) (n spare : ℕ) → n + spare ≡ 8 * length p → all_zero (drop n (bits_of p)) ≡ true → take n (bits_of p) ++ replicate spare 0 ≡ bits_of p
all-bits p n spare h z =
    let r : spare ≡ length (drop n (bits_of p)) = omega (arith, length-bits p, length-drop n (bits_of p)) in
    ap (λ (l : List ℕ). take n (bits_of p) ++ l) (ap (λ (k : ℕ). replicate k 0) r ∙ sym (zeros-only (drop n (bits_of p)) z)) ∙ take-append-drop n (bits_of p)

pack-back : (p : List ℕ) (n : ℕ) → AreBytes p → length p ≡ bit_bytes n → all_zero (drop n (bits_of p)) ≡ true → pack (take n (bits_of p)) ≡ p
unfolding pack bit_bytes
pack-back p n a l z =
    let m : length (take n (bits_of p)) ≡ n = length-take-le n (bits_of p) (omega (arith, length-bits p)) in
    rw (m, ← l) (ap (packed (length p)) (all-bits p n (8 * length p - n) (omega arith) z) ∙ packed-bits p a)

bits-few : (p : List ℕ) → All (λ (b : ℕ). b < 2) (bits_of p)
unfolding bits_of
bits-few [] = tt
bits-few (b ∷ p) = all_append _ (to_digits 2 8 b) (bits_of p) (all-to 2 (lit< tt) 8 b) (bits-few p)

bits-same : (ds : List ℕ) → All (λ (b : ℕ). b < 2) ds → map bit_of (map pos ds) ≡ ds
unfolding bit_of
bits-same [] a = refl
bits-same (zero ∷ ds) a = ap (λ (l : List ℕ). 0 ∷ l) (bits-same ds a.1)
bits-same (suc zero ∷ ds) a = ap (λ (l : List ℕ). 1 ∷ l) (bits-same ds a.1)
bits-same (suc (suc n) ∷ ds) a = absurd (omega (arith, a.0))

bits-form : (p : List ℕ) (n : ℕ) → AreBytes p → length p ≡ bit_bytes n → all_zero (drop n (bits_of p)) ≡ true → p ≡ content_form Bits (map pos (take n (bits_of p)))
unfolding content_form bytes_of number
bits-form p n a l z = sym (ap pack (bits-same (take n (bits_of p)) (all_take _ n (bits_of p) (bits-few p))) ∙ pack-back p n a l z)

-- bytes of n bits, the others 0
pub bits-moved : (n m : ℕ) (s old new : List ℕ) (at o e : ℕ) → AreBytes s → m ≡ bit_bytes n → at + m ≤ length s → all_zero (drop n (bits_of (take m (drop at s)))) ≡ true
    → Puts old o (take m (drop at s)) new e → ContentMoved (InBinary Bits n s at) (AsBinary Bits) old o new n (at + m) e
unfolding content_bytes bit_bytes
bits-moved n m s old new at o e a size h z u =
    let p : List ℕ = take m (drop at s) in
    let l : length p ≡ m = length-take-le m (drop at s) (simp length-drop (omega arith)) in
    let few : n ≤ length (bits_of p) = omega (arith, length-bits p, l, size) in
    record {
      es = map pos (take n (bits_of p));
      bytes = p;
      reads = record {
        elements = ap (λ (j : ℕ). content Bits n (take j (drop at s))) (sym size) ∙ content-bits n p true z ∙ ap good (take-map pos n (bits_of p));
        next-is = ap (λ (j : ℕ). at + j) size;
      };
      writes = bits-form p n (all_take _ m (drop at s) (all_drop _ at s a)) (l ∙ size) z;
      puts = u;
      count-is = sym (length-map (take n (bits_of p)) pos ∙ length-take-le n (bits_of p) few);
    }

-- ---- the code's tests of the padding

module _ (s : List ℕ) (at n : ℕ) (room : at + (n + 7) / 8 ≤ length s) where
  length_part : length (take ((n + 7) / 8) (drop at s)) ≡ (n + 7) / 8
  length_part = length-take-le ((n + 7) / 8) (drop at s) (simp length-drop (omega arith))

  pub none-spare : 8 * ((n + 7) / 8) - n ≡ 0 → true ≡ all_zero (drop n (bits_of (take (bit_bytes n) (drop at s))))
  unfolding bit_bytes
  none-spare none = sym (no-padding (take ((n + 7) / 8) (drop at s)) n (omega (arith, length_part)))

  pub spare-at : (8 * ((n + 7) / 8) - n ≡ 0 → ⊥)
      → eqb (get_or s (at + (n + 7) / 8 - 1) 0 % ((1 * 2 ^ (8 * ((n + 7) / 8) - n)) % 2 ^ 64)) 0 ≡ all_zero (drop n (bits_of (take (bit_bytes n) (drop at s))))
  unfolding bit_bytes
  spare-at some =
      let k : ℕ = (n + 7) / 8 in
      let has : 0 < 8 * k - n = some_of (8 * k - n) some in
      let last : at + (k - 1) ≡ at + k - 1 = omega arith in
      let b : get_or (take k (drop at s)) (k - 1) 0 ≡ get_or s (at + k - 1) 0 =
      get_or-take k (drop at s) (k - 1) 0 (omega arith) ∙ get_or-drop at s (k - 1) 0 ∙ ap (λ (j : ℕ). get_or s j 0) last in
      sym (spare-test (take k (drop at s)) n k (omega (arith, length_part)) (omega (arith, length_part)) (omega arith) (omega arith) some
      ∙ ap (λ (x : ℕ). eqb (x % ((1 * 2 ^ (8 * k - n)) % 2 ^ 64)) 0) b)
