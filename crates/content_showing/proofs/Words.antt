-- Elements as words: each with a space behind it, and the last space left out.
use Prim.Native.Nat.{◌%◌, ◌*◌, ◌+◌, ◌-◌, ◌/◌, ◌<◌, ◌^◌, ◌≤◌, suc, zero, ℕ}
use native.Mathlib.Nat.{suc-mul, zero-mul}
use native.Mathlib.Numerals.{add-one}
use native.Mathlib.Omega.{arith}
use mathlib.Core.Bool.{Bool, false}
use mathlib.Core.List.{List, [], ◌++◌, ◌∷◌, append_assoc, append-nil, map}
use mathlib.Core.Path.{◌∙◌, ◌≡◌, ap, ap₂, refl, subst, sym}
use lib.Dec.{eqb, leb}
use lib.IntN.{pos, ℤ}
use lib.ListN.{drop, get_or, length, length-append, replicate, take}
use lib.Seq.{drop-drop, take-take}
use mir.Val.{bool_byte}
use borrow.Author.Tests.{eqb-true}
use Rattle.binary.proofs.Loops.{length-integers}
use Rattle.binary.specs.Binary.{content_bytes}
use Rattle.binary_reading.proofs.Cells.{content-whole}
use Rattle.binary.specs.Reading.{integers}
use Rattle.content_showing.proofs.Text.{drop_of_take}
use Rattle.content_showing.specs.Showing.{byte_word}
use Rattle.moving.proofs.Puts.{puts-as, puts_none, puts-part, puts_then, puts-wrote}
use Rattle.moving.specs.Contents.{AsText, ContentMoved, InBinary}
use Rattle.moving.specs.Puts.{Puts}
use Rattle.number.proofs.Laws.{length_to}
use Rattle.number.specs.Clauses.{is_signed, size, width_of}
use Rattle.number.specs.Number.{digits, of_digits, of_pattern, shortest, to_digits}
use Rattle.number.specs.declared.Integer.{Integer}
use Rattle.number.specs.declared.Integer.TheVariants.{UnsignedByte}
use Rattle.table.proofs.Bytes.{same-is}
use Rattle.table.proofs.Laws.{each_below}
use Rattle.table.proofs.Places.{next1}
use Rattle.table.specs.Bytes.{same}
use Rattle.table.specs.Result.{good}
use Rattle.table.specs.Shape.{W1, Whole}
use Rattle.table.specs.Wrote.{Wrote}
use Rattle.tabledata.specs.TableData.{element_bytes, element_text, joined, spaced}

-- an element's word and a space
abbrev pub word : (ℤ → List ℕ) → ℤ → List ℕ
word g z = g z ++ (32 ∷ [])

pub joined-last : (f : ℤ → List ℕ) (es : List ℤ) (e : ℤ) → joined f (es ++ (e ∷ [])) ≡ joined f es ++ f e
unfolding joined
joined-last f [] e = append-nil (f e)
joined-last f (d ∷ es) e = ap (λ (l : List ℕ). f d ++ l) (joined-last f es e) ∙ sym (append_assoc (f d) (joined f es) (f e))

words-spaced : (g : ℤ → List ℕ) (e : ℤ) (es : List ℤ) → joined (word g) (e ∷ es) ≡ spaced (map g (e ∷ es)) ++ (32 ∷ [])
unfolding joined spaced
words-spaced g e [] = append-nil (g e ++ (32 ∷ []))
words-spaced g e (d ∷ es) =
    ap (λ (l : List ℕ). (g e ++ (32 ∷ [])) ++ l) (words-spaced g d es)
    ∙ append_assoc (g e) (32 ∷ []) (spaced (map g (d ∷ es)) ++ (32 ∷ []))
    ∙ sym (append_assoc (g e) (32 ∷ spaced (map g (d ∷ es))) (32 ∷ []))

pub words_long : (g : ℤ → List ℕ) (es : List ℤ) → length es ≤ length (joined (word g) es)
unfolding joined
words_long g [] = omega arith
words_long g (e ∷ es) = omega (arith, length-append (g e ++ (32 ∷ [])) (joined (word g) es), length-append (g e) (32 ∷ []), words_long g es)

-- without the last space
pub puts-spaced : {l l₁ : List ℕ} {o e : ℕ} (g : ℤ → List ℕ) (es : List ℤ) → 1 ≤ length es → Puts l o (joined (word g) es) l₁ e → Puts l o (spaced (map g es)) l₁ (e - 1)
puts-spaced g [] h u = absurd (omega arith)
puts-spaced {l} {l₁} {o} {e} g (d ∷ es) h u =
    let w : List ℕ = spaced (map g (d ∷ es)) in
    let v : Puts l o (w ++ (32 ∷ [])) l₁ e = puts-as (words-spaced g d es) u in
    let n : o + length w ≡ e - 1 = omega (arith, v.next-is, length-append w (32 ∷ [])) in
    subst (λ (k : ℕ). Puts l o w l₁ k) n (puts-part w (32 ∷ []) v)

-- ---- integers one after the other

module _ (g : Bool) (w : ℕ) where
  integers-last : (k : ℕ) (s : List ℕ) → integers g w (suc k) s ≡ integers g w k s ++ (of_pattern g w (of_digits 256 0 (take w (drop (k * w) s))) ∷ [])
  unfolding integers
  integers-last zero s = rw (zero-mul w)
  integers-last (suc k) s =
      let e : w + k * w ≡ suc k * w = omega (arith, suc-mul k w) in
      ap (λ (l : List ℤ). of_pattern g w (of_digits 256 0 (take w s)) ∷ l)
      (integers-last k (drop w s)
      ∙ ap (λ (l : List ℕ). integers g w k (drop w s) ++ (of_pattern g w (of_digits 256 0 (take w l)) ∷ [])) (drop-drop (k * w) w s ∙ ap (λ (j : ℕ). drop j s) e))

  -- only the bytes of n of them are looked at
  integers-taken : (n : ℕ) (s : List ℕ) → integers g w n (take (n * w) s) ≡ integers g w n s
  unfolding integers
  integers-taken zero s = refl
  integers-taken (suc n) s =
      let m : suc n * w ≡ n * w + w = suc-mul n w in
      let e : suc n * w - w ≡ n * w = omega arith in
      ap₂ (λ (x : List ℕ) (l : List ℤ). of_pattern g w (of_digits 256 0 x) ∷ l) (take-take w (suc n * w) s (omega arith))
      (ap (integers g w n) (drop_of_take w (suc n * w) s ∙ ap (λ (j : ℕ). take j (drop w s)) e) ∙ integers-taken n (drop w s))

-- ---- the loop: the first k integers of s from a place are put, a space behind each

pub record IntegersPut (i : Integer) (s : List ℕ) (at : ℕ) (old : List ℕ) (o : ℕ) (new : List ℕ) (from e k : ℕ) : Type 0 where
  pub puts : Puts old o (joined (word shortest) (integers (is_signed i) (size i) k (drop at s))) new e
  pub from_is : from ≡ at + k * size i

module _ (i : Integer) (s : List ℕ) (at : ℕ) where
  pub integers-start : (old : List ℕ) (o : ℕ) → o ≤ length old → IntegersPut i s at old o old at o 0
  unfolding joined integers
  integers-start old o h = record { puts = puts_none old o h; from_is = omega arith }

  pub integer-more : {old row new : List ℕ} {o from e k next : ℕ} (z : ℤ) (w : ℕ) → w ≡ size i → z ≡ of_pattern (is_signed i) (size i) (of_digits 256 0 (take (size i) (drop from s)))
      → Puts row e (word shortest z) new next → IntegersPut i s at old o row from e k → IntegersPut i s at old o new (from + w) next (k + 1)
  integer-more {from = from} {k = k} z w m q u t =
      let f : from ≡ at + k * size i = t.from_is in
      let d : drop from s ≡ drop (k * size i) (drop at s) = ap (λ (j : ℕ). drop j s) f ∙ sym (drop-drop (k * size i) at s) in
      let es : integers (is_signed i) (size i) k (drop at s) ++ (z ∷ []) ≡ integers (is_signed i) (size i) (k + 1) (drop at s) =
      ap (λ (y : ℤ). integers (is_signed i) (size i) k (drop at s) ++ (y ∷ []))
      (q ∙ ap (λ (l : List ℕ). of_pattern (is_signed i) (size i) (of_digits 256 0 (take (size i) l))) d)
      ∙ sym (ap (λ (j : ℕ). integers (is_signed i) (size i) j (drop at s)) (add-one k) ∙ integers-last (is_signed i) (size i) k (drop at s)) in
      record {
        puts = puts-as (sym (joined-last (word shortest) (integers (is_signed i) (size i) k (drop at s)) z) ∙ ap (joined (word shortest)) es) (puts_then t.puts u);
        from_is = omega (arith, f, m);
      }

  pub integers-some : {old new : List ℕ} {o from e k : ℕ} → IntegersPut i s at old o new from e k → 0 < k → 1 ≤ e
  integers-some {k = k} t h =
      let es : List ℤ = integers (is_signed i) (size i) k (drop at s) in
      omega (arith, t.puts.next-is, words_long shortest es, length-integers (is_signed i) (size i) k (drop at s))

  pub integers-moved : {old new : List ℕ} {o from e k : ℕ} (n : ℕ) → 0 < n → k ≡ n → IntegersPut i s at old o new from e k
      → ContentMoved (InBinary (Whole (is_signed i) (width_of i)) n s at) (AsText (Whole (is_signed i) (width_of i))) old o new n from (e - 1)
  unfolding content_bytes element_text element_bytes
  integers-moved {old} {new} {o} {from} {e} n h q t =
      let es : List ℤ = integers (is_signed i) (size i) n (drop at s) in
      let l : length es ≡ n = length-integers (is_signed i) (size i) n (drop at s) in
      record {
        es = es;
        bytes = spaced (map shortest es);
        reads = record {
          elements = content-whole (is_signed i) (width_of i) n (take (n * size i) (drop at s)) ∙ ap good (integers-taken (is_signed i) (size i) n (drop at s));
          next-is = t.from_is ∙ ap (λ (j : ℕ). at + j * size i) q;
        };
        writes = refl;
        puts = puts-spaced shortest es (omega arith) (puts-as (ap (λ (j : ℕ). joined (word shortest) (integers (is_signed i) (size i) j (drop at s))) q) t.puts);
        count-is = sym l;
      }

-- ---- unsigned bytes: a byte's word by computation over the bytes

abbrev more_digits : ℕ → ℕ
more_digits b = bool_byte (leb 10 b) + bool_byte (leb 100 b)

abbrev four_of : ℕ → ℕ
four_of b = (b / 100 * 16777216 + b / 10 % 10 * 65536 + b % 10 * 256 + 808464416) * 2 ^ (16 - 8 * more_digits b) % 4294967296

pub byte-word-is : (b : ℕ) → b < 256 → to_digits 256 4 (four_of b) ≡ byte_word b ++ replicate (4 - length (byte_word b)) 0
unfolding byte_word shortest digits same to_digits
byte-word-is b h = same-is _ _ (each_below (λ (b : ℕ). same (to_digits 256 4 (four_of b)) (byte_word b ++ replicate (4 - length (byte_word b)) 0)) 256 refl b h)

pub byte-size-is : (b : ℕ) → b < 256 → 2 + bool_byte (leb 10 b) + bool_byte (leb 100 b) ≡ length (byte_word b)
unfolding byte_word shortest digits
byte-size-is b h = eqb-true _ _ (each_below (λ (b : ℕ). eqb (2 + bool_byte (leb 10 b) + bool_byte (leb 100 b)) (length (byte_word b))) 256 refl b h)

pub byte_put : {l l₁ : List ℕ} {o e r : ℕ} (b x : ℕ) → to_digits 256 4 x ≡ byte_word b ++ replicate (4 - length (byte_word b)) 0 → Wrote l o (to_digits 256 4 x) l₁ e
    → o + 4 ≤ length l → r ≡ length (byte_word b) → Puts l o (byte_word b) l₁ (o + r)
byte_put {l} {l₁} {o} b x q w h n =
    subst (λ (k : ℕ). Puts l o (byte_word b) l₁ (o + k)) (sym n)
    (puts-part (byte_word b) (replicate (4 - length (byte_word b)) 0) (puts-as q (puts-wrote w (omega (arith, length_to 256 4 x)))))

-- the integer that a byte is
byte-is : (s : List ℕ) (i : ℕ) → i < length s → pos (get_or s i 0) ≡ of_pattern false 1 (of_digits 256 0 (take 1 (drop i s)))
unfolding of_pattern of_digits
byte-is s i h = rw (next1 s i h) (ap pos (omega arith))

pub byte_more : {old row new : List ℕ} {o e next : ℕ} (s : List ℕ) (at k b : ℕ) → at + k < length s → b ≡ get_or s (at + k) 0 → Puts row e (byte_word b) new next
    → IntegersPut UnsignedByte s at old o row (at + k) e k → IntegersPut UnsignedByte s at old o new (at + (k + 1)) next (k + 1)
unfolding byte_word
byte_more s at k b h q u t =
    let m = integer-more UnsignedByte s at (pos b) 1 refl (ap pos q ∙ byte-is s (at + k) h) u t in
    record { puts = m.puts; from_is = omega arith }

pub bytes-start : (s : List ℕ) (at : ℕ) (old : List ℕ) (o : ℕ) → o ≤ length old → IntegersPut UnsignedByte s at old o old (at + 0) o 0
bytes-start s at old o h = record { puts = (integers-start UnsignedByte s at old o h).puts; from_is = omega arith }

pub bytes-moved : {old new : List ℕ} {o e : ℕ} (s : List ℕ) (at n k : ℕ) → 0 < n → k ≡ n → IntegersPut UnsignedByte s at old o new (at + k) e k
    → ContentMoved (InBinary (Whole false W1) n s at) (AsText (Whole false W1)) old o new n (at + n) (e - 1)
bytes-moved {old} {new} {o} {e} s at n k h q t =
    subst (λ (j : ℕ). ContentMoved (InBinary (Whole false W1) n s at) (AsText (Whole false W1)) old o new n (at + j) (e - 1)) q (integers-moved UnsignedByte s at n h q t)
