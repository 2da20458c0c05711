-- Bits: a character for each bit of a byte by computation over the bytes, and of more bytes one after the other.
use Prim.Native.Nat.{◌%◌, ◌*◌, ◌+◌, ◌-◌, ◌/◌, ◌<◌, ◌^◌, ◌≤◌, suc, zero, ℕ}
use native.Mathlib.Numerals.{add-one}
use native.Mathlib.Omega.{arith}
use mathlib.Core.Bool.{true}
use mathlib.Core.List.{List, [], ◌++◌, ◌∷◌, map}
use mathlib.Core.Path.{◌∙◌, ◌≡◌, ap, ap₂, refl, subst, sym}
use lib.Bits.{and_le_r, bit_and, bit_or}
use lib.Dec.{eqb, lit<}
use lib.IntN.{pos}
use lib.ListN.{drop, get_or, length, length-drop, length-map, take, take-append-drop}
use lib.Seq.{get_or-drop, length-take-le, take-suc}
use Rattle.binary.proofs.Digits.{bits-join, content-bits, length-bits, map-join, padding, take-map, unit-is, zero-digits}
use Rattle.binary.specs.Binary.{all_zero, bit_bytes, bits_of, content_bytes}
use Rattle.content_showing.proofs.Text.{part_at, part-long}
use Rattle.content_showing.specs.Showing.{bit_letters}
use Rattle.moving.proofs.Puts.{puts-as, puts_none, puts-part, puts_then, puts-wrote}
use Rattle.moving.specs.Contents.{AsText, ContentMoved, InBinary}
use Rattle.moving.specs.Puts.{Puts}
use Rattle.number.proofs.Laws.{all-to, length_to}
use Rattle.number.specs.Number.{to_digits}
use Rattle.table.proofs.Bytes.{same-is}
use Rattle.table.proofs.Laws.{all_append, all_take, each_below}
use Rattle.table.specs.All.{All}
use Rattle.table.specs.Bytes.{same}
use Rattle.table.specs.Result.{good}
use Rattle.table.specs.Shape.{Bits}
use Rattle.table.specs.Wrote.{Wrote}
use Rattle.tabledata.specs.TableData.{bit_text, element_bytes, element_text}

-- ---- one byte

abbrev halves_of : ℕ → ℕ
halves_of b = bit_and (bit_or b (b * 268435456 % 18446744073709551616)) 64424509455

abbrev quarters_of : ℕ → ℕ
quarters_of x = bit_and (bit_or x (x * 16384 % 18446744073709551616)) 844437815230467

abbrev singles_of : ℕ → ℕ
singles_of y = bit_and (bit_or y (y * 128 % 18446744073709551616)) 72340172838076673

pub bit-word-is : (b : ℕ) → b < 256 → to_digits 256 8 (singles_of (quarters_of (halves_of b)) + 3472328296227680304) ≡ bit_letters (b ∷ [])
unfolding bit_letters bits_of same to_digits
bit-word-is b h = same-is _ _ (each_below (λ (b : ℕ). same (to_digits 256 8 (singles_of (quarters_of (halves_of b)) + 3472328296227680304)) (bit_letters (b ∷ []))) 256 refl b h)

pub bit-word-fits : (b : ℕ) → singles_of (quarters_of (halves_of b)) + 3472328296227680304 < 18446744073709551616
bit-word-fits b = let y : ℕ = quarters_of (halves_of b) in omega (arith, and_le_r (bit_or y (y * 128 % 18446744073709551616)) 72340172838076673)

-- ---- bytes one after the other

letters-join : (xs ys : List ℕ) → bit_letters (xs ++ ys) ≡ bit_letters xs ++ bit_letters ys
unfolding bit_letters
letters-join xs ys = ap (map (λ (d : ℕ). d + 48)) (bits-join xs ys) ∙ map-join (λ (d : ℕ). d + 48) (bits_of xs) (bits_of ys)

pub bits-start : (s old : List ℕ) (at o : ℕ) → o ≤ length old → Puts old o (bit_letters (take 0 (drop at s))) old (o + 8 * 0)
unfolding bit_letters bits_of
bits-start s old at o h = subst (λ (k : ℕ). Puts old o [] old k) (let e : o ≡ o + 8 * 0 = omega arith in e) (puts_none old o h)

pub byte_more : {old row new : List ℕ} {o e : ℕ} (s : List ℕ) (at k b x : ℕ) → at + k < length s → b ≡ get_or s (at + k) 0 → to_digits 256 8 x ≡ bit_letters (b ∷ [])
    → o + 8 * k + 8 ≤ length row → Wrote row (o + 8 * k) (to_digits 256 8 x) new e
    → Puts old o (bit_letters (take k (drop at s))) row (o + 8 * k) → Puts old o (bit_letters (take (k + 1) (drop at s))) new (o + 8 * (k + 1))
byte_more {old} {row} {new} {o} {e} s at k b x h q y room w u =
    let one : take k (drop at s) ++ (b ∷ []) ≡ take (k + 1) (drop at s) =
    ap (λ (c : ℕ). take k (drop at s) ++ (c ∷ [])) (q ∙ sym (get_or-drop at s k 0))
    ∙ sym (ap (λ (j : ℕ). take j (drop at s)) (add-one k) ∙ take-suc (drop at s) k 0 (simp length-drop (omega arith))) in
    let n : e ≡ o + 8 * (k + 1) = omega (arith, w.next-is, length_to 256 8 x) in
    subst (λ (j : ℕ). Puts old o (bit_letters (take (k + 1) (drop at s))) new j) n
    (puts-as (sym (letters-join (take k (drop at s)) (b ∷ [])) ∙ ap bit_letters one)
    (puts_then u (puts-as y (puts-wrote w (omega (arith, length_to 256 8 x))))))

-- ---- the elements and their text

bit-text : (d : ℕ) → d < 2 → bit_text (pos d) ≡ d + 48
unfolding bit_text
bit-text zero h = refl
bit-text (suc zero) h = refl
bit-text (suc (suc d)) h = absurd (omega arith)

bits-text : (ds : List ℕ) → All (λ (d : ℕ). d < 2) ds → map bit_text (map pos ds) ≡ map (λ (d : ℕ). d + 48) ds
bits-text [] h = refl
bits-text (d ∷ ds) h = ap₂ (λ (x : ℕ) (l : List ℕ). x ∷ l) (bit-text d h.0) (bits-text ds h.1)

bits_small : (s : List ℕ) → All (λ (d : ℕ). d < 2) (bits_of s)
unfolding bits_of
bits_small [] = tt
bits_small (b ∷ s) = all_append _ (to_digits 2 8 b) (bits_of s) (all-to 2 (lit< tt) 8 b) (bits_small s)

pub bit-bytes : (n : ℕ) → bit_bytes n ≡ (n + 7) / 8
unfolding bit_bytes
bit-bytes n = refl

module _ (s : List ℕ) (at n : ℕ) (h : at + (n + 7) / 8 ≤ length s) where
  -- the code's test of the padding
  pub padded : 0 < n → eqb (get_or s (at + (n + 7) / 8 - 1) 0 % ((1 * 2 ^ (8 * ((n + 7) / 8) - n)) % 18446744073709551616)) 0 ≡ all_zero (drop n (bits_of (take (bit_bytes n) (drop at s))))
  unfolding bit_bytes
  padded some =
      let m : ℕ = (n + 7) / 8 in
      let part : List ℕ = take m (drop at s) in
      let spare : ℕ = 8 * m - n in
      let l : length part ≡ m = part-long s at m h in
      let e : at + (m - 1) ≡ at + m - 1 = omega arith in
      let last : get_or part (length part - 1) 0 ≡ get_or s (at + m - 1) 0 =
      ap (λ (j : ℕ). get_or part (j - 1) 0) l ∙ part_at s at m h (m - 1) (omega arith) ∙ ap (λ (j : ℕ). get_or s j 0) e in
      sym (ap all_zero (padding part n spare (omega arith) (omega arith) (omega arith)) ∙ zero-digits spare (get_or part (length part - 1) 0)
      ∙ ap₂ (λ (x u : ℕ). eqb (x % u) 0) last (sym (unit-is spare (omega arith))))

  pub bits-moved : {old new : List ℕ} {o : ℕ} → all_zero (drop n (bits_of (take (bit_bytes n) (drop at s)))) ≡ true
      → Puts old o (bit_letters (take ((n + 7) / 8) (drop at s))) new (o + 8 * ((n + 7) / 8)) → ContentMoved (InBinary Bits n s at) (AsText Bits) old o new n (at + (n + 7) / 8) (o + n)
  unfolding bit_letters bit_bytes content_bytes element_text element_bytes
  bits-moved {old} {new} {o} z u =
      let m : ℕ = (n + 7) / 8 in
      let ds : List ℕ = bits_of (take m (drop at s)) in
      let l : length ds ≡ 8 * m = length-bits (take m (drop at s)) ∙ ap (λ (j : ℕ). 8 * j) (part-long s at m h) in
      let k : length (take n ds) ≡ n = length-take-le n ds (omega arith) in
      let text : map bit_text (take n (map pos ds)) ≡ map (λ (d : ℕ). d + 48) (take n ds) =
      ap (map bit_text) (take-map pos n ds) ∙ bits-text (take n ds) (all_take _ n ds (bits_small (take m (drop at s)))) in
      let split : map (λ (d : ℕ). d + 48) ds ≡ map (λ (d : ℕ). d + 48) (take n ds) ++ map (λ (d : ℕ). d + 48) (drop n ds) =
      ap (map (λ (d : ℕ). d + 48)) (sym (take-append-drop n ds)) ∙ map-join (λ (d : ℕ). d + 48) (take n ds) (drop n ds) in
      let put : Puts old o (map (λ (d : ℕ). d + 48) (take n ds)) new (o + n) =
      subst (λ (j : ℕ). Puts old o (map (λ (d : ℕ). d + 48) (take n ds)) new (o + j)) (length-map (take n ds) (λ (d : ℕ). d + 48) ∙ k)
      (puts-part (map (λ (d : ℕ). d + 48) (take n ds)) (map (λ (d : ℕ). d + 48) (drop n ds)) (puts-as split u)) in
      record {
        es = take n (map pos ds);
        bytes = map (λ (d : ℕ). d + 48) (take n ds);
        reads = record { elements = content-bits n (take m (drop at s)) true z; next-is = refl };
        writes = ap good text;
        puts = put;
        count-is = sym (ap length (take-map pos n ds) ∙ length-map (take n ds) pos ∙ k);
      }
