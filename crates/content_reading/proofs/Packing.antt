-- The bits of a cell: characters that are bits, eight to a byte, the last filled with 0.
use Prim.Native.Nat.{◌%◌, ◌*◌, ◌+◌, ◌-◌, ◌/◌, ◌<◌, ◌^◌, ◌≤◌, suc, zero, ℕ}
use native.Mathlib.Nat.{add-zero, mod-eq_of_lt}
use native.Mathlib.Omega.{arith}
use mathlib.Core.Bool.{true}
use mathlib.Core.List.{List, [], ◌++◌, ◌∷◌, append_assoc, append-nil, map}
use mathlib.Core.Path.{◌∙◌, ◌≡◌, ap, ap₂, refl, subst, sym}
use lib.Dec.{lit<}
use lib.IntN.{pos}
use lib.ListN.{drop, length, length-append, length-drop, length-map, length-replicate, replicate, set, take}
use lib.Pow.{shl_exact, shl_lt}
use lib.Seq.{drop-append-le, drop_at, drop-drop, length-take-le, take_all, take-append-le, take-take}
use Rattle.binary.specs.Binary.{bit_bytes, bit_of, bytes_of, number, pack, packed}
use Rattle.integer_reading.proofs.Runs.{passes-length}
use Rattle.integer_reading.proofs.Figures.{InBase, figures-are, figures-below, figures-join, length-figures, of-zeros}
use Rattle.integer_reading.proofs.Spelling.{Itself, spells-none, spells-run, spells_then}
use Rattle.integer_reading.specs.Figures.{BitByte, Leading, ReadIn, figures, is_bit}
use Rattle.integer_reading.specs.Runs.{Passes}
use Rattle.moving.proofs.Puts.{puts-as, puts_none, puts_then, puts-wrote}
use Rattle.moving.specs.Contents.{AsBinary, ContentMoved, InText, Spells, content_form}
use Rattle.moving.specs.Puts.{Puts}
use Rattle.number.proofs.Laws.{of-append, of-from, of_lt}
use Rattle.number.specs.Number.{of_digits}
use Rattle.table.proofs.Laws.{all_append, all_drop, all_take, all-weaken, between_is, no-white}
use Rattle.table.proofs.Words.{words-one}
use Rattle.table.specs.All.{All, AreBytes}
use Rattle.table.specs.Result.{every, good}
use Rattle.table.specs.Shape.{Bits}
use Rattle.tabledata.specs.TableData.{bit_letter, bit_words, text_elements}

-- ---- bits in bytes

packed-last : (j : ℕ) (l : List ℕ) → packed (suc j) l ≡ packed j l ++ (of_digits 2 0 (take 8 (drop (8 * j) l)) ∷ [])
unfolding packed
packed-last zero l = refl
packed-last (suc j) l =
    let e : 8 + 8 * j ≡ 8 * suc j = omega arith in
    ap (λ (t : List ℕ). of_digits 2 0 (take 8 l) ∷ t) (packed-last j (drop 8 l))
    ∙ ap (λ (t : List ℕ). of_digits 2 0 (take 8 l) ∷ (packed j (drop 8 l) ++ (of_digits 2 0 (take 8 t) ∷ []))) (drop-drop (8 * j) 8 l ∙ ap (λ (k : ℕ). drop k l) e)

packed-front : (j : ℕ) (l z : List ℕ) → 8 * j ≤ length l → packed j (l ++ z) ≡ packed j l
unfolding packed
packed-front zero l z h = refl
packed-front (suc j) l z h =
    ap₂ (λ (b : ℕ) (t : List ℕ). b ∷ t) (ap (of_digits 2 0) (take-append-le 8 l z (omega arith)))
    (ap (packed j) (drop-append-le 8 l z (omega arith)) ∙ packed-front j (drop 8 l) z (simp length-drop (omega arith)))

-- whole bytes, and a byte more
pub pack-more : (l v : List ℕ) → length l % 8 ≡ 0 → 1 ≤ length v → length v ≤ 8
    → pack (l ++ v) ≡ pack l ++ (of_digits 2 0 (v ++ replicate (8 - length v) 0) ∷ [])
unfolding pack bit_bytes
pack-more l v whole some few =
    let j : ℕ = length l / 8 in
    let z : List ℕ = replicate (8 - length v) 0 in
    let n : length (l ++ v) ≡ length l + length v = length-append l v in
    let k : (length (l ++ v) + 7) / 8 ≡ suc j = omega (arith, n) in
    let m : 8 * suc j - length (l ++ v) ≡ 8 - length v = omega (arith, n) in
    let k' : (length l + 7) / 8 ≡ j = omega arith in
    let m' : 8 * j - length l ≡ 0 = omega arith in
    let full : length (v ++ z) ≡ 8 = length-append v z ∙ omega (arith, length-replicate {A = ℕ} (8 - length v) 0) in
    ap (λ (i : ℕ). packed i (l ++ v ++ replicate (8 * i - length (l ++ v)) 0)) k
    ∙ ap (λ (i : ℕ). packed (suc j) (l ++ v ++ replicate i 0)) m
    ∙ ap (packed (suc j)) (append_assoc l v z)
    ∙ packed-last j (l ++ (v ++ z))
    ∙ ap₂ (λ (t u : List ℕ). t ++ (of_digits 2 0 u ∷ [])) (packed-front j l (v ++ z) (omega arith))
    (ap (take 8) (drop_at l (v ++ z) (8 * j) (omega arith)) ∙ take_all 8 (v ++ z) (omega arith))
    ∙ ap (λ (t : List ℕ). t ++ (of_digits 2 0 (v ++ z) ∷ []))
    (sym (ap (λ (i : ℕ). packed i (l ++ replicate (8 * i - length l) 0)) k' ∙ ap (λ (i : ℕ). packed j (l ++ replicate i 0)) m' ∙ ap (packed j) (append-nil l)))

-- ---- the byte of some bits

abbrev IsBits : List ℕ → Type 0
IsBits w = All (λ (c : ℕ). is_bit c ≡ true) w

pub bit_is : (c : ℕ) → is_bit c ≡ true → (48 ≤ c) × (c ≤ 49)
unfolding is_bit
bit_is c h = between_is 48 49 c h

bit-itself : (c : ℕ) → is_bit c ≡ true → Itself c
bit-itself c h = let i = bit_is c h in (λ e. omega arith, λ e. omega arith, λ e. omega arith)

in-base : (w : List ℕ) → IsBits w → All (InBase 2) w
in-base w a = all-weaken _ (InBase 2) w (λ c h. ((bit_is c h).0, omega (arith, (bit_is c h).1))) a

figures-bits : (w : List ℕ) → IsBits w → All (λ (b : ℕ). b < 2) (figures w)
figures-bits w a = figures-below 2 w (in-base w a)

-- zeros behind
zeros-behind : (b k : ℕ) (ds : List ℕ) → of_digits b 0 (ds ++ replicate k 0) ≡ of_digits b 0 ds * b ^ k
zeros-behind b k ds =
    of-append b 0 ds (replicate k 0) ∙ of-from b (of_digits b 0 ds) (replicate k 0)
    ∙ ap₂ (λ (n x : ℕ). of_digits b 0 ds * b ^ n + x) (length-replicate {A = ℕ} k 0) (ap (of_digits b 0) (sym (append-nil (replicate k 0))) ∙ of-zeros b k [] ∙ none b)
    ∙ add-zero (of_digits b 0 ds * b ^ k)
  where
    none : (b : ℕ) → of_digits b 0 [] ≡ 0
    none b = unfold of_digits in refl

-- what is shifted out of the way, read and put back
pub bit_byte : (x n t r : ℕ) → n ≤ 8 → Leading x n t → ReadIn 2 t r → BitByte x n (r * 2 ^ (8 - n) % 2 ^ 64 % 256)
bit_byte x n t r few lead read = record {
  padded = λ p l a e bits.
      let v : List ℕ = figures (take n p) in
      let m : length v ≡ n = length-figures (take n p) ∙ length-take-le n p (omega (arith, l)) in
      let small : All (λ (b : ℕ). b < 2) v = figures-bits (take n p) bits in
      let is : r ≡ of_digits 2 0 v =
      read.read v (omega (arith, m)) (all-weaken _ _ v (λ b h. omega arith) small) (lead.leading p l a e ∙ ap (of_digits 256 0) (figures-are 2 (take n p) (omega arith) (in-base (take n p) bits))) in
      let below : r < 2 ^ n = subst (λ (k : ℕ). r < 2 ^ k) m (subst (λ (y : ℕ). y < 2 ^ length v) (sym is) (of_lt 2 (lit< tt) v small)) in
      let whole : n + (8 - n) ≡ 8 = omega arith in
      let byte : r * 2 ^ (8 - n) < 256 = subst (λ (k : ℕ). r * 2 ^ (8 - n) < 2 ^ k) whole (shl_lt n (8 - n) below) in
      ap (λ (y : ℕ). y % 256) (shl_exact n (8 - n) 64 below (omega arith)) ∙ mod-eq_of_lt byte
      ∙ ap (λ (y : ℕ). y * 2 ^ (8 - n)) is ∙ sym (zeros-behind 2 (8 - n) v);
}

-- ---- what is read so far

pub record BitsTo (s : List ℕ) (from at : ℕ) (old : List ℕ) (first : ℕ) (new : List ℕ) (o : ℕ) : Type 0 where
  pub w : List ℕ
  pub bits : All (λ (c : ℕ). is_bit c ≡ true) w
  pub spells : Spells s from at w
  pub puts : Puts old first (pack (figures w)) new o
  pub count : at - from ≡ length w

pub bits-start : {s : List ℕ} {from : ℕ} {old : List ℕ} {first : ℕ} → from ≤ length s → first ≤ length old → BitsTo s from from old first old first
unfolding pack bit_bytes packed figures
bits-start {s} {from} {old} {first} h k = record { w = []; bits = tt; spells = spells-none s from h; puts = puts_none old first k; count = omega arith }

-- some bits more, behind whole bytes
pub bits-more : {s : List ℕ} {from at : ℕ} {old : List ℕ} {first : ℕ} {new : List ℕ} {o : ℕ} {x n b : ℕ} → BitsTo s from at old first new o → (at - from) % 8 ≡ 0
    → AreBytes s → at + 8 ≤ length s → o < length new → x ≡ of_digits 256 0 (take 8 (drop at s)) → Passes is_bit s at n → n ≤ 8 → (n ≡ 0 → ⊥) → BitByte x n b
    → BitsTo s from (at + n) old first (set new o b) (o + 1)
bits-more {s} {from} {at} {old} {first} {new} {o} {x} {n} {b} r whole are h room e q few some byte =
    let p : List ℕ = take 8 (drop at s) in
    let l : length p ≡ 8 = length-take-le 8 (drop at s) (simp length-drop (omega arith)) in
    let v : List ℕ = take n (drop at s) in
    let m : length v ≡ n = passes-length q in
    let front : take n p ≡ v = take-take n 8 (drop at s) few in
    let bs : List ℕ = figures v in
    let k : length bs ≡ n = length-figures v ∙ m in
    let is : b ≡ of_digits 2 0 (bs ++ replicate (8 - length bs) 0) =
    byte.padded p l (all_take _ 8 (drop at s) (all_drop _ at s are)) e (subst (All (λ (c : ℕ). is_bit c ≡ true)) (sym front) q.all)
    ∙ ap₂ (λ (t : List ℕ) (i : ℕ). of_digits 2 0 (figures t ++ replicate (8 - i) 0)) front (sym k) in
    record {
      w = r.w ++ v;
      bits = all_append _ r.w v r.bits q.all;
      spells = spells_then r.spells (spells-run s at n q.inside (all-weaken _ _ v bit-itself q.all));
      puts = puts-as
          (ap (λ (y : ℕ). pack (figures r.w) ++ (y ∷ [])) is
          ∙ sym (ap pack (figures-join r.w v) ∙ pack-more (figures r.w) bs (omega (arith, length-figures r.w, r.count)) (omega (arith, k)) (omega (arith, k))))
          (puts_then r.puts (puts-wrote (record { now-is = refl; next-is = refl }) (omega arith)));
      count = omega (arith, r.count, length-append r.w v, m, r.spells.onward);
    }

-- ---- what it comes to

pub every-bit : (w : List ℕ) → IsBits w → every bit_letter w ≡ good (map pos (figures w))
unfolding every bit_letter figures is_bit
every-bit [] a = refl
every-bit (c ∷ w) a = rw (a.0, every-bit w a.1)

bit-self : (b : ℕ) → b < 2 → bit_of (pos b) ≡ b
unfolding bit_of
bit-self zero h = refl
bit-self (suc zero) h = refl
bit-self (suc (suc b)) h = absurd (omega arith)

bits_back : (bs : List ℕ) → All (λ (b : ℕ). b < 2) bs → map (number Bits) (map pos bs) ≡ bs
unfolding number
bits_back [] a = refl
bits_back (b ∷ bs) a = ap₂ (λ (x : ℕ) (t : List ℕ). x ∷ t) (bit-self b a.0) (bits_back bs a.1)

pub bits-moved : {s : List ℕ} {from at : ℕ} {old : List ℕ} {first : ℕ} {new : List ℕ} {o : ℕ} → BitsTo s from at old first new o → (at ≡ from → ⊥)
    → ContentMoved (InText Bits s from) (AsBinary Bits) old first new (at - from) at o
unfolding text_elements bit_words content_form bytes_of
bits-moved {s} {from} {at} r some =
    let filled : 1 ≤ length r.w = omega (arith, r.count, r.spells.onward) in
    record {
      es = map pos (figures r.w);
      bytes = pack (figures r.w);
      reads = record {
        word = r.w;
        spells = r.spells;
        elements = ap bit_words (words-one r.w (filled, all-weaken _ _ r.w (λ c g. no-white c (omega (arith, bit_is c g))) r.bits)) ∙ every-bit r.w r.bits;
      };
      writes = sym (ap pack (bits_back (figures r.w) (figures-bits r.w r.bits)));
      puts = r.puts;
      count-is = r.count ∙ sym (length-map (figures r.w) (λ (b : ℕ). pos b) ∙ length-figures r.w);
    }
