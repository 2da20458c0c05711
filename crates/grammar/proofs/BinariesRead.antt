-- BINARY and BINARY2 are read exactly: numbers, bits, contents and cells. Digits in base 256 and 2 have inverse laws already; the rest is
-- definitional.
use Prim.Native.Nat.{◌*◌, ◌+◌, ◌/◌, ◌<◌, ◌^◌, ◌≤◌, suc, zero, ℕ}
use native.Mathlib.Omega.{arith}
use mathlib.Core.Bool.{Bool, ◌||◌, false, true}
use mathlib.Core.List.{List, [], ◌++◌, ◌∷◌, append_assoc, append-nil}
use mathlib.Core.Path.{◌∙◌, ◌≡◌, ap, ap₂, refl, subst, subst⁻¹, sym}
use lib.Dec.{eqb, lit<, lit≤, ltb}
use lib.IntN.{pos, ℤ}
use lib.ListN.{drop, length, length-append, length-drop, length-take, replicate, take, take-append-drop}
use lib.Seq.{drop_at, take_at}
use borrow.Author.Tests.{eqb-false, eqb-true, le-ltb, lt-ltb, ltb-false, ltb-true, ne_eqb}
use Rattle.binary.proofs.Digits.{every-bits}
use Rattle.binary.proofs.Laws.{all_zero-zeros, first_back, first-splits}
use Rattle.binary.specs.Binary.{all_zero, at_most, before_nul, bit_bytes, bits_of, content, content_bytes, count_in, counted, element, numbers, numbers_in, read_binary}
use Rattle.binary.specs.Binary.{read_binary2, shows, truth, unpack}
use Rattle.grammar.proofs.Fronts.{Front}
use Rattle.grammar.proofs.ShownRead.{shows-is, shows-read}
use Rattle.grammar.proofs.WordsRead.{letters-false, letters-true, stands-is, stands_read, three-bytes}
use Rattle.grammar.specs.Binaries.{BigEndian, Binary2Cell, BinaryCell, BitsIn, CharBytes, Content, Counted, IntegerBytes, Listed, Packed, Takes}
use Rattle.grammar.specs.Binaries.{TruthByte, big_endian, binary-empty, binary-null, binary-shown, bits_in, byte-letter, byte-nul, byte-question}
use Rattle.grammar.specs.Binaries.{byte-space, bytes-end, bytes-nul, bytes-then, cell-flagged, cell-unflagged, content-bits, content-chars, content-truths}
use Rattle.grammar.specs.Binaries.{content-whole, counted-bounded, counted-fixed, counted-free, integer-bytes, listed-end, listed_then, packed-end}
use Rattle.grammar.specs.Binaries.{packed-then, takes-bits, takes-chars, takes-truths, takes_whole}
use Rattle.grammar.specs.Words.{Itself, Numeral, TruthLetter, itself, letter-0, letter-1, letter-F, letter-T, letter-f, letter-t, one-digit, one_more}
use Rattle.number.proofs.Laws.{all-to, length_to, of_lt, of-to, to-of}
use Rattle.number.specs.Number.{of_digits, to_digits}
use Rattle.table.proofs.Laws.{all_append, all_drop, all_take, and_both, cond_cases, holds-bind, holds-cond, holds-weaken}
use Rattle.table.specs.All.{All, AreBytes}
use Rattle.table.specs.Cell.{Cell, empty_is_null, most_elements, null, show, shown}
use Rattle.table.specs.Result.{Holds, Result, ◌>>=◌, every, good, holds, refuses}
use Rattle.table.specs.Shape.{Bits, Shape, Text, Truths, Whole, Width, last, shape}
use Rattle.table.specs.declared.Column.{Column}
use Rattle.table.specs.declared.Len.{Len}
use Rattle.table.specs.declared.Len.TheVariants.{Bounded, Fixed, Free}

-- ---- what a part of bytes is: bytes

pub parts-bytes : (s t r : List ℕ) → s ≡ t ++ r → AreBytes s → AreBytes t × AreBytes r
parts-bytes s t r e a = go t r (subst AreBytes e a)
  where
    go : (t r : List ℕ) → AreBytes (t ++ r) → AreBytes t × AreBytes r
    go [] r a = (tt, a)
    go (b ∷ t) r a = ((a.0, (go t r a.1).0), (go t r a.1).1)

-- of three parts the two behind the first
pub later-bytes : (s t r v : List ℕ) → s ≡ t ++ (r ++ v) → AreBytes s → AreBytes r × AreBytes v
later-bytes s t r v e a = parts-bytes (r ++ v) r v refl (parts-bytes s t (r ++ v) e a).1

-- ---- numbers

digits_append : (base a : ℕ) (s t : List ℕ) → of_digits base a (s ++ t) ≡ of_digits base (of_digits base a s) t
unfolding of_digits
digits_append base a [] t = refl
digits_append base a (d ∷ s) t = digits_append base (a * base + d) s t

pub itself-read : {base n : ℕ} {s : List ℕ} → Numeral Itself base s n → of_digits base 0 s ≡ n
unfolding of_digits
itself-read (one-digit itself) = omega arith
itself-read {base} (one_more {s = s} {b = b} m itself) = digits_append base 0 s (b ∷ []) ∙ rw (itself-read m)

itself-from : (base : ℕ) (p : List ℕ) (a : ℕ) → Numeral Itself base p a → (s : List ℕ) → Numeral Itself base (p ++ s) (of_digits base a s)
unfolding of_digits
itself-from base p a m [] = rw append-nil m
itself-from base p a m (d ∷ s) = rw append_assoc at (itself-from base (p ++ (d ∷ [])) (a * base + d) (one_more m itself) s)

pub itself-is : (base : ℕ) (s : List ℕ) → 1 ≤ length s → Numeral Itself base s (of_digits base 0 s)
unfolding of_digits
itself-is base [] h = absurd (omega arith)
itself-is base (d ∷ s) h = itself-from base (d ∷ []) (0 * base + d) (subst (Numeral Itself base (d ∷ [])) (omega arith) (one-digit itself)) s

-- ---- bits

pub packed-read : {bits s : List ℕ} → Packed bits s → bits_of s ≡ bits
unfolding bits_of
packed-read packed-end = refl
packed-read (packed-then {bits = bits} {more = more} {n = n} l a m r) =
    let e : to_digits 2 8 (of_digits 2 0 bits) ≡ bits = rw l at (to-of 2 (lit< tt) 0 bits a) in
    rw (packed-read r) (ap (λ (x : List ℕ). x ++ more) (rw (itself-read m) at e))

pub packed-is : (s : List ℕ) → AreBytes s → Packed (bits_of s) s
unfolding bits_of
packed-is [] a = packed-end
packed-is (b ∷ s) a =
    let m : Numeral Itself 2 (to_digits 2 8 b) (of_digits 2 0 (to_digits 2 8 b)) = itself-is 2 (to_digits 2 8 b) (rw (length_to 2 8 b) (lit≤ tt)) in
    let e : of_digits 2 0 (to_digits 2 8 b) ≡ b = of-to 2 (lit< tt) 8 b a.0 in
    packed-then (length_to 2 8 b) (all-to 2 (lit< tt) 8 b) (rw e at m) (packed-is s a.1)

pub zeros-are : (s : List ℕ) → all_zero s ≡ true → s ≡ replicate (length s) 0
unfolding all_zero
zeros-are [] h = refl
zeros-are (b ∷ s) h = let k = and_both (eqb b 0) (all_zero s) h in ap₂ (λ (x : ℕ) (y : List ℕ). x ∷ y) (eqb-true b 0 k.0) (zeros-are s k.1)

pub bits-long : (s : List ℕ) → length (bits_of s) ≡ length s * 8
unfolding bits_of
bits-long [] = refl
bits-long (b ∷ s) = length-append (to_digits 2 8 b) (bits_of s) ∙ omega (arith, length_to 2 8 b, bits-long s)

pub bits-in-read : {n : ℕ} {s bits : List ℕ} → BitsIn n s bits → unpack n s ≡ good bits
unfolding unpack
bits-in-read {n} (bits_in {bits = bits} p l m r) =
    rw (packed-read r, drop_at bits (replicate p 0) n l, take_at bits (replicate p 0) n l, all_zero-zeros p)

pub bits-in-is : (n : ℕ) (s : List ℕ) → length s ≡ (n + 7) / 8 → AreBytes s → Holds (BitsIn n s) (unpack n s)
unfolding unpack
bits-in-is n s l a =
    holds-cond (all_zero (drop n (bits_of s))) (λ z.
    let e : bits_of s ≡ take n (bits_of s) ++ replicate (length (drop n (bits_of s))) 0
    = sym (take-append-drop n (bits_of s)) ∙ ap (λ (x : List ℕ). take n (bits_of s) ++ x) (zeros-are (drop n (bits_of s)) z) in
    holds (bits_in (length (drop n (bits_of s))) (length-take n (bits_of s) ∙ omega (arith, bits-long s)) l (subst (λ (x : List ℕ). Packed x s) e (packed-is s a)))) (λ _. refuses)

pub bits-in-long : {n : ℕ} {s bits : List ℕ} → BitsIn n s bits → length bits ≡ n
bits-in-long (bits_in p l m r) = l

pub bits-in-bytes : {n : ℕ} {s bits : List ℕ} → BitsIn n s bits → length s ≡ (n + 7) / 8
bits-in-bytes (bits_in p l m r) = m

packed_all : {bits s : List ℕ} → Packed bits s → All (λ (b : ℕ). b < 2) bits
packed_all packed-end = tt
packed_all (packed-then {bits = bits} {more = more} l a m r) = all_append _ bits more a (packed_all r)

pub bits-in-all : {n : ℕ} {s bits : List ℕ} → BitsIn n s bits → All (λ (b : ℕ). b < 2) bits
bits-in-all (bits_in {bits = bits} p l m r) = go bits (packed_all r)
  where
    go : (bits : List ℕ) → All (λ (b : ℕ). b < 2) (bits ++ replicate p 0) → All (λ (b : ℕ). b < 2) bits
    go [] a = tt
    go (b ∷ bits) a = (a.0, go bits a.1)

-- ---- elements of w bytes

module _ (Element : List ℕ → ℤ → Type 0) (w : ℕ) (f : ℕ → Result ℕ ℤ) (long : (b : List ℕ) (e : ℤ) → Element b e → length b ≡ w)
    (complete : (b : List ℕ) (e : ℤ) → Element b e → f (of_digits 256 0 b) ≡ good e)
    (sound : (b : List ℕ) → length b ≡ w → AreBytes b → Holds (Element b) (f (of_digits 256 0 b))) where
  listed-read : {n : ℕ} {s : List ℕ} {es : List ℤ} → Listed Element n s es → every f (numbers w n s) ≡ good es
  unfolding every numbers
  listed-read listed-end = refl
  listed-read (listed_then {b = b} {s = s} {e = e} h r) = rw (take_at b s w (long b e h), drop_at b s w (long b e h), complete b e h, listed-read r)

  listed-long : {n : ℕ} {s : List ℕ} {es : List ℤ} → Listed Element n s es → length s ≡ n * w
  listed-long listed-end = omega arith
  listed-long (listed_then {b = b} {s = s} {e = e} h r) = length-append b s ∙ omega (arith, long b e h, listed-long r)

  listed-is : (n : ℕ) (s : List ℕ) → length s ≡ n * w → AreBytes s → Holds (Listed Element n s) (every f (numbers w n s))
  unfolding every numbers
  listed-is zero [] l a = holds listed-end
  listed-is zero (b ∷ s) l a = absurd (omega arith)
  listed-is (suc n) s l a =
      holds-bind (sound (take w s) (length-take w s ∙ omega arith) (all_take _ w s a)) (λ e h.
      holds-bind (listed-is n (drop w s) (length-drop w s ∙ omega arith) (all_drop _ w s a)) (λ es r.
      holds (subst (λ (x : List ℕ). Listed Element (suc n) x (e ∷ es)) (take-append-drop w s) (listed_then h r))))

truth-letter-read : {b : ℕ} {e : ℤ} → TruthLetter b e → truth b ≡ good e
unfolding truth
truth-letter-read letter-T = refl
truth-letter-read letter-t = refl
truth-letter-read letter-1 = refl
truth-letter-read letter-F = refl
truth-letter-read letter-f = refl
truth-letter-read letter-0 = refl

truth-long : (b : List ℕ) (e : ℤ) → TruthByte b e → length b ≡ 1
truth-long b e (byte-letter l) = refl
truth-long b e byte-nul = refl
truth-long b e byte-space = refl
truth-long b e byte-question = refl

one_number : (b : ℕ) → of_digits 256 0 (b ∷ []) ≡ b
unfolding of_digits
one_number b = omega arith

truth-byte-read : (b : List ℕ) (e : ℤ) → TruthByte b e → element Truths (of_digits 256 0 b) ≡ good e
unfolding element
truth-byte-read b e (byte-letter {b = x} l) = rw (one_number x) (truth-letter-read l)
truth-byte-read b e byte-nul = unfold truth of_digits in refl
truth-byte-read b e byte-space = unfold truth of_digits in refl
truth-byte-read b e byte-question = unfold truth of_digits in refl

truth-byte-is : (b : List ℕ) → length b ≡ 1 → AreBytes b → Holds (TruthByte b) (element Truths (of_digits 256 0 b))
unfolding element truth
truth-byte-is [] l a = absurd (omega arith)
truth-byte-is (b ∷ []) l a =
    rw (one_number b)
    (holds-cond (eqb b 84 || eqb b 116 || eqb b 49) (λ h. holds (byte-letter (letters-true b h))) (λ _.
    holds-cond (eqb b 70 || eqb b 102 || eqb b 48) (λ h. holds (byte-letter (letters-false b h))) (λ _.
    holds-cond (eqb b 0 || eqb b 32 || eqb b 63) (λ h. holds (three-bytes (λ (x : ℕ). TruthByte (x ∷ []) (pos 2)) b 0 32 63 h byte-nul byte-space byte-question)) (λ _. refuses))))
truth-byte-is (b ∷ c ∷ s) l a = absurd (omega arith)

integer-long : (g : Bool) (w : ℕ) (b : List ℕ) (z : ℤ) → IntegerBytes g w b z → length b ≡ w
integer-long g w b z (integer-bytes (big_endian l m) s) = l

integer-bytes-read : (g : Bool) (v : Width) (b : List ℕ) (z : ℤ) → IntegerBytes g (suc (last v)) b z → element (Whole g v) (of_digits 256 0 b) ≡ good z
unfolding element
integer-bytes-read g v b z (integer-bytes (big_endian l m) s) = rw (itself-read m) (ap good (stands_read s))

integer-bytes-are : (g : Bool) (v : Width) (b : List ℕ) → length b ≡ suc (last v) → AreBytes b → Holds (IntegerBytes g (suc (last v)) b) (element (Whole g v) (of_digits 256 0 b))
unfolding element
integer-bytes-are g v b l a =
    let h : of_digits 256 0 b < 256 ^ suc (last v) = rw l at (of_lt 256 (lit< tt) b a) in
    holds (integer-bytes (big_endian l (itself-is 256 b (omega arith))) (stands-is g (suc (last v)) (of_digits 256 0 b) h))

-- ---- char

chars-read : {n : ℕ} {s : List ℕ} {es : List ℤ} → CharBytes n s es → every (element Text) (before_nul s) ≡ good es
unfolding every before_nul element
chars-read bytes-end = refl
chars-read (bytes-nul l) = refl
chars-read (bytes-then {b = b} h k r) = rw (ne_eqb b 0 (λ e. omega (arith, h, e)), lt-ltb b 128 k, chars-read r)

char_is : (b : ℕ) → Holds (λ (z : ℤ). (b < 128) × (z ≡ pos b)) (element Text b)
unfolding element
char_is b = holds-cond (ltb b 128) (λ h. holds (ltb-true b 128 h, refl)) (λ _. refuses)

chars-are : (s : List ℕ) → Holds (CharBytes (length s) s) (every (element Text) (before_nul s))
unfolding every before_nul
chars-are [] = holds bytes-end
chars-are (b ∷ s) =
    cond_cases (λ (t : List ℕ). Holds (CharBytes (suc (length s)) (b ∷ s)) (every (element Text) t)) (eqb b 0) [] (b ∷ before_nul s)
    (λ e. holds (rw (eqb-true b 0 e) (bytes-nul refl)))
    (λ e. holds-bind (char_is b) (λ z h.
    holds-bind (chars-are s) (λ es r. holds (subst⁻¹ (λ (x : ℤ). CharBytes (suc (length s)) (b ∷ s) (x ∷ es)) h.1 (bytes-then (omega (arith, eqb-false b 0 e)) h.0 r)))))

chars-long : {n : ℕ} {s : List ℕ} {es : List ℤ} → CharBytes n s es → length s ≡ n
chars-long bytes-end = refl
chars-long (bytes-nul l) = ap suc l
chars-long (bytes-then h k r) = ap suc (chars-long r)

-- ---- contents

pub content-read : {k : Shape} {n : ℕ} {s : List ℕ} {es : List ℤ} → Content k n s es → content k n s ≡ good es
unfolding content numbers_in
content-read (content-truths h) = listed-read TruthByte 1 (element Truths) truth-long truth-byte-read truth-byte-is h
content-read (content-bits {bits = bits} h) = rw (bits-in-read h) (every-bits bits)
content-read (content-whole {g = g} {v = v} h) =
    listed-read (IntegerBytes g (suc (last v))) (suc (last v)) (element (Whole g v)) (integer-long g (suc (last v))) (integer-bytes-read g v) (integer-bytes-are g v) h
content-read (content-chars h) = chars-read h

content-long : {k : Shape} {n : ℕ} {s : List ℕ} {es : List ℤ} → Content k n s es → length s ≡ content_bytes k n
unfolding content_bytes bit_bytes
content-long (content-truths h) = listed-long TruthByte 1 (element Truths) truth-long truth-byte-read truth-byte-is h ∙ omega arith
content-long (content-bits (bits_in p l m r)) = m
content-long (content-whole {g = g} {v = v} h) =
    listed-long (IntegerBytes g (suc (last v))) (suc (last v)) (element (Whole g v)) (integer-long g (suc (last v))) (integer-bytes-read g v) (integer-bytes-are g v) h
content-long (content-chars h) = chars-long h

pub content-is : (k : Shape) (n : ℕ) (s : List ℕ) → length s ≡ content_bytes k n → AreBytes s → Holds (Content k n s) (content k n s)
unfolding content numbers_in content_bytes bit_bytes
content-is Truths n s l a = holds-weaken (listed-is TruthByte 1 (element Truths) truth-long truth-byte-read truth-byte-is n s (omega arith) a) (λ es h. content-truths h)
content-is Bits n s l a = holds-bind (bits-in-is n s l a) (λ bits h. rw (every-bits bits) (holds (content-bits h)))
content-is (Whole g v) n s l a =
    holds-weaken (listed-is (IntegerBytes g (suc (last v))) (suc (last v)) (element (Whole g v)) (integer-long g (suc (last v))) (integer-bytes-read g v) (integer-bytes-are g v) n s l a)
    (λ es h. content-whole h)
content-is Text n s l a = holds-weaken (chars-are s) (λ es h. content-chars (subst (λ (x : ℕ). CharBytes x s es) l h))

pub takes-read : {k : Shape} {n m : ℕ} → Takes k n m → content_bytes k n ≡ m
unfolding content_bytes bit_bytes
takes-read takes-truths = refl
takes-read takes-bits = refl
takes-read takes_whole = refl
takes-read takes-chars = refl

pub takes-is : (k : Shape) (n : ℕ) → Takes k n (content_bytes k n)
unfolding content_bytes bit_bytes
takes-is Truths n = takes-truths
takes-is Bits n = takes-bits
takes-is (Whole g v) n = takes_whole
takes-is Text n = takes-chars

-- ---- counts

pub big-endian-is : (b : List ℕ) → length b ≡ 4 → BigEndian 4 b (of_digits 256 0 b)
big-endian-is b l = big_endian l (itself-is 256 b (rw l (lit≤ tt)))

count-read : (most : ℕ) {b : List ℕ} {m : ℕ} → BigEndian 4 b m → m ≤ most → (t : List ℕ) → counted most (b ++ t) ≡ good (m, t)
unfolding counted at_most
count-read most {b} {m} (big_endian l n) h t = rw (first_back 4 b t l, itself-read n, le-ltb most m h)

pub counted-read : {l : Len} {b : List ℕ} {m : ℕ} → Counted l b m → (t : List ℕ) → count_in l (b ++ t) ≡ good (m, t)
unfolding count_in
counted-read counted-fixed t = refl
counted-read (counted-bounded {n = n} e h) t = count-read n e h t
counted-read (counted-free e h) t = count-read most_elements e h t

count-is : (most : ℕ) (s : List ℕ) → Holds (Front (λ (b : List ℕ) (m : ℕ). BigEndian 4 b m × (m ≤ most)) s) (counted most s)
unfolding counted at_most
count-is most s = holds-bind (first-splits 4 s) (λ p h.
    holds-cond (ltb most (of_digits 256 0 p.0)) (λ _. refuses) (λ f.
    holds (record { taken = p.0; whole = h.1; spelled = (big-endian-is p.0 h.0, ltb-false most (of_digits 256 0 p.0) f) })))

pub counted_is : (l : Len) (s : List ℕ) → Holds (Front (Counted l) s) (count_in l s)
unfolding count_in
counted_is (Fixed n) s = holds (record { taken = []; whole = refl; spelled = counted-fixed })
counted_is (Bounded n) s = holds-weaken (count-is n s) (λ p h. record { taken = h.taken; whole = h.whole; spelled = counted-bounded h.spelled.0 h.spelled.1 })
counted_is Free s = holds-weaken (count-is most_elements s) (λ p h. record { taken = h.taken; whole = h.whole; spelled = counted-free h.spelled.0 h.spelled.1 })

-- ---- cells

pub binary2-read : {c : Column} {f : Bool} {t : List ℕ} {x : Cell} → Binary2Cell c f t x → (rest : List ℕ) → read_binary2 c f (t ++ rest) ≡ good (x, rest)
unfolding read_binary2 shows
binary2-read {c} (cell-flagged {a = a} b {n = n} h k l) rest =
    rw (append_assoc a b rest, counted-read h (b ++ rest), first_back (content_bytes (shape c.kind) n) b rest (l ∙ sym (takes-read k)))
binary2-read {c} (cell-unflagged {a = a} {b = b} {n = n} h r s) rest =
    rw (append_assoc a b rest, counted-read h (b ++ rest), first_back (content_bytes (shape c.kind) n) b rest (content-long r), content-read r, shows-read s)

pub joined : (s a b t rest : List ℕ) → s ≡ a ++ t → t ≡ b ++ rest → s ≡ (a ++ b) ++ rest
joined s a b t rest e k = e ∙ ap (λ (x : List ℕ). a ++ x) k ∙ sym (append_assoc a b rest)

pub binary2-is : (c : Column) (f : Bool) (s : List ℕ) → AreBytes s → Holds (Front (Binary2Cell c f) s) (read_binary2 c f s)
unfolding read_binary2
binary2-is c f s a =
    holds-bind (counted_is c.len s) (λ n h.
    holds-bind (first-splits (content_bytes (shape c.kind) n.0) n.1) (λ p g.
    let q : AreBytes p.0 = (parts-bytes n.1 p.0 p.1 g.1 (parts-bytes s h.taken n.1 h.whole a).1).0 in
    go f n.0 h.taken n.1 p.0 p.1 h.whole h.spelled g.0 g.1 q))
  where
    go : (f : Bool) (n : ℕ) (b t p rest : List ℕ) → s ≡ b ++ t → Counted c.len b n → length p ≡ content_bytes (shape c.kind) n → t ≡ p ++ rest → AreBytes p
        → Holds (Front (Binary2Cell c f) s) (shows c f n p >>= λ x. good (x, rest))
    go true n b t p rest e h l k q = unfold shows in
        holds (record { taken = b ++ p; whole = joined s b p t rest e k; spelled = cell-flagged p h (takes-is (shape c.kind) n) l })
    go false n b t p rest e h l k q = unfold shows in
        holds-bind (holds-bind (content-is (shape c.kind) n p l q) (λ es r. holds (shown-as es r))) (λ x r. holds (record { taken = b ++ p; whole = joined s b p t rest e k; spelled = r }))
      where
        shown-as : (es : List ℤ) → Content (shape c.kind) n p es → Binary2Cell c false (b ++ p) (show c es)
        shown-as es r = cell-unflagged h r (shows-is c es)

pub binary-read : {c : Column} {t : List ℕ} {x : Cell} → BinaryCell c t x → (rest : List ℕ) → read_binary c (t ++ rest) ≡ good (x, rest)
unfolding read_binary empty_is_null
binary-read (binary-empty h) rest = rw (binary2-read h rest)
binary-read (binary-null h) rest = rw (binary2-read h rest)
binary-read (binary-shown h) rest = rw (binary2-read h rest)

binary-as : (c : Column) (b : List ℕ) (x : Cell) → Binary2Cell c false b x → BinaryCell c b (empty_is_null x)
unfolding empty_is_null
binary-as c b null h = binary-null h
binary-as c b (shown []) h = binary-empty h
binary-as c b (shown (e ∷ es)) h = binary-shown h

pub binary-is : (c : Column) (s : List ℕ) → AreBytes s → Holds (Front (BinaryCell c) s) (read_binary c s)
unfolding read_binary
binary-is c s a = holds-bind (binary2-is c false s a) (λ p h. holds (record { taken = h.taken; whole = h.whole; spelled = binary-as c h.taken p.0 h.spelled }))
