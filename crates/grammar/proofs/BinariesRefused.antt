-- A cell of BINARY2, and the flags before a row's cells, are refused exactly as the grammar says, with their numbers. What a part of the
-- reader refuses with is said for any property of the number, under what each refusal rests on.
use Prim.Native.Nat.{◌+◌, ◌/◌, ◌<◌, ℕ}
use native.Mathlib.Omega.{arith}
use mathlib.Core.Bool.{Bool, false, false≢true, true}
use mathlib.Core.List.{List, [], ◌++◌, ◌∷◌}
use mathlib.Core.Path.{◌∙◌, ◌≡◌, ap, refl, subst⁻¹, sym}
use lib.Dec.{ltb}
use lib.IntN.{ℤ}
use lib.ListN.{drop, length, length-take, take, take-append-drop}
use lib.Seq.{drop_at}
use borrow.Author.Tests.{eq-eqb, lt-ltb, ltb-true}
use Rattle.binary.proofs.Digits.{every-bits}
use Rattle.binary.proofs.Laws.{element-fails, first_back, first-splits}
use Rattle.binary.specs.Binary.{all_zero, at_most, bit_bytes, bits_of, content, content_bytes, count_in, counted, element, first_bytes, numbers_in, read_binary2, read_flags, shows, unpack}
use Rattle.grammar.proofs.BinariesRead.{big-endian-is, bits-long, content-is, content-read, counted_is, counted-read, itself-read, packed-is, packed-read}
use Rattle.grammar.proofs.BinariesRead.{later-bytes, parts-bytes, takes-is, takes-read, zeros-are}
use Rattle.grammar.proofs.Fronts.{fails-then, fails-told, not_so, refused}
use Rattle.grammar.specs.Binaries.{BigEndian, Content, Counted, Packed, big_endian}
use Rattle.grammar.specs.CellRefusals.{HasCount, NoBinary2Cell, NoFlags, PaddingSet, cut-content, cut-count, cut-flags, has-bounded, has-free, no-byte-value}
use Rattle.grammar.specs.CellRefusals.{over-bound, padding-not-0, padding-set, spare-flag}
use Rattle.number.specs.Number.{of_digits}
use Rattle.table.proofs.Laws.{all_replicate, bad-good, cond_cases, fails-bind, fails-every, holds-weaken}
use Rattle.table.specs.All.{All, AreBytes}
use Rattle.table.specs.Cell.{bound, most_elements}
use Rattle.table.specs.Result.{Fails, bad, fails, gives, good}
use Rattle.table.specs.Shape.{Bits, Shape, Text, Truths, Whole, shape}
use Rattle.table.specs.declared.Column.{Column}
use Rattle.table.specs.declared.Len.{Len}
use Rattle.table.specs.declared.Len.TheVariants.{Bounded, Fixed, Free}

-- ---- bits and their padding

all-zero : (s : List ℕ) → All (λ (b : ℕ). b ≡ 0) s → all_zero s ≡ true
unfolding all_zero
all-zero [] a = refl
all-zero (b ∷ s) a = rw (eq-eqb b 0 a.0) (all-zero s a.1)

not-zero : (s : List ℕ) → (All (λ (b : ℕ). b ≡ 0) s → ⊥) → all_zero s ≡ false
not-zero s h = not_so (all_zero s) (λ e. h (subst⁻¹ (All (λ (b : ℕ). b ≡ 0)) (zeros-are s e) (all_replicate (λ (b : ℕ). b ≡ 0) (length s) 0 refl)))

padding-read : {n : ℕ} {s : List ℕ} → PaddingSet n s → unpack n s ≡ bad 13
unfolding unpack
padding-read {n} (padding-set bits padding l m r h) = rw (packed-read r, drop_at bits padding n l, not-zero padding h)

padding-long : {n : ℕ} {s : List ℕ} → PaddingSet n s → length s ≡ (n + 7) / 8
padding-long (padding-set bits padding l m r h) = m

unpack-refused : {Q : ℕ → Type 0} (n : ℕ) (s : List ℕ) → length s ≡ (n + 7) / 8 → AreBytes s → (PaddingSet n s → Q 13) → Fails Q (unpack n s)
unfolding unpack
unpack-refused {Q} n s l a f =
    cond_cases (Fails Q) (all_zero (drop n (bits_of s))) (good (take n (bits_of s))) (bad 13) (λ _. gives) (λ e.
    let r : Packed (take n (bits_of s) ++ drop n (bits_of s)) s = subst⁻¹ (λ (x : List ℕ). Packed x s) (take-append-drop n (bits_of s)) (packed-is s a) in
    fails (f (padding-set (take n (bits_of s)) (drop n (bits_of s)) (length-take n (bits_of s) ∙ omega (arith, bits-long s)) l r (λ z. false≢true (sym e ∙ all-zero _ z)))))

-- ---- bytes that are cut off

first_short : (n : ℕ) (s : List ℕ) → length s < n → first_bytes n s ≡ bad 8
unfolding first_bytes
first_short n s h = rw (lt-ltb (length s) n h)

first-refused : {Q : ℕ → Type 0} (n : ℕ) (s : List ℕ) → (length s < n → Q 8) → Fails Q (first_bytes n s)
unfolding first_bytes
first-refused {Q} n s f = cond_cases (Fails Q) (ltb (length s) n) (bad 8) (good (take n s, drop n s)) (λ e. fails (f (ltb-true (length s) n e))) (λ _. gives)

-- ---- counts

count-short : {l : Len} → HasCount l → (s : List ℕ) → length s < 4 → count_in l s ≡ bad 8
unfolding count_in counted
count-short has-bounded s h = rw (first_short 4 s h)
count-short has-free s h = rw (first_short 4 s h)

count-over : {l : Len} {b : List ℕ} {n : ℕ} → HasCount l → BigEndian 4 b n → bound l < n → (rest : List ℕ) → count_in l (b ++ rest) ≡ bad 9
unfolding count_in counted at_most
count-over {b = b} {n = n} (has-bounded {n = m}) (big_endian l e) h rest = rw (first_back 4 b rest l, itself-read e, lt-ltb m n h)
count-over {b = b} {n = n} has-free (big_endian l e) h rest = rw (first_back 4 b rest l, itself-read e, lt-ltb most_elements n h)

counted-refused : {Q : ℕ → Type 0} (most : ℕ) (s : List ℕ) → (length s < 4 → Q 8) → ((b rest : List ℕ) (n : ℕ) → s ≡ b ++ rest → BigEndian 4 b n → most < n → Q 9)
    → Fails Q (counted most s)
unfolding counted at_most
counted-refused {Q} most s f g = fails-then (first-refused 4 s f) (first-splits 4 s) (λ p h. let n = of_digits 256 0 p.0 in
    cond_cases (Fails Q) (ltb most n) (bad 9) (good (n, p.1)) (λ e. fails (g p.0 p.1 n h.1 (big-endian-is p.0 h.0) (ltb-true most n e))) (λ _. gives))

count-refused : {Q : ℕ → Type 0} (l : Len) (s : List ℕ) → (HasCount l → length s < 4 → Q 8)
    → ((b rest : List ℕ) (n : ℕ) → HasCount l → s ≡ b ++ rest → BigEndian 4 b n → bound l < n → Q 9) → Fails Q (count_in l s)
unfolding count_in
count-refused (Fixed n) s f g = gives
count-refused (Bounded n) s f g = counted-refused n s (f has-bounded) (λ b rest m. g b rest m has-bounded)
count-refused Free s f g = counted-refused most_elements s (f has-free) (λ b rest m. g b rest m has-free)

-- ---- contents

not-bits : {P : ℕ → Type 0} (k : Shape) (n : ℕ) (s : List ℕ) → (k ≡ Bits → ⊥) → P 11 → Fails P (content k n s)
unfolding content numbers_in
not-bits Truths n s h q = fails-every (element Truths) (element-fails q Truths) _
not-bits Bits n s h q = absurd (h refl)
not-bits (Whole g v) n s h q = fails-every (element (Whole g v)) (element-fails q (Whole g v)) _
not-bits Text n s h q = fails-every (element Text) (element-fails q Text) _

no-content : {Q : ℕ → Type 0} (k : Shape) (n : ℕ) (s : List ℕ) → (k ≡ Bits → ⊥) → ((k ≡ Bits → ⊥) → ((es : List ℤ) → Content k n s es → ⊥) → Q 11)
    → Fails Q (content k n s)
no-content k n s h g = fails-told (not-bits k n s h (λ q. g h (λ es c. bad-good (sym q ∙ content-read c))))

abbrev IsBits : Shape → Type 0
IsBits Truths = ⊥
IsBits Bits = Unit {0}
IsBits (Whole g v) = ⊥
IsBits Text = ⊥

content-refused : {Q : ℕ → Type 0} (k : Shape) (n : ℕ) (s : List ℕ) → length s ≡ content_bytes k n → AreBytes s
    → (k ≡ Bits → PaddingSet n s → Q 13) → ((k ≡ Bits → ⊥) → ((es : List ℤ) → Content k n s es → ⊥) → Q 11) → Fails Q (content k n s)
content-refused Truths n s l a f g = no-content Truths n s (λ e. subst⁻¹ IsBits e tt) g
content-refused Bits n s l a f g = unfold content numbers_in content_bytes bit_bytes in fails-bind (unpack-refused n s l a (f refl)) (λ bits. rw (every-bits bits) gives)
content-refused (Whole signed v) n s l a f g = no-content (Whole signed v) n s (λ e. subst⁻¹ IsBits e tt) g
content-refused Text n s l a f g = no-content Text n s (λ e. subst⁻¹ IsBits e tt) g

bits-refused : {k : Shape} {n : ℕ} {s : List ℕ} → k ≡ Bits → PaddingSet n s → content k n s ≡ bad 13
unfolding content numbers_in
bits-refused e h = rw (e, padding-read h)

bits-long-as : {k : Shape} {n : ℕ} {s : List ℕ} → k ≡ Bits → PaddingSet n s → length s ≡ content_bytes k n
unfolding content_bytes bit_bytes
bits-long-as e h = rw e (padding-long h)

-- ---- a cell

unflagged-refused : (c : Column) {f : Bool} (n : ℕ) (b : List ℕ) {m : ℕ} → f ≡ false → content (shape c.kind) n b ≡ bad m → shows c f n b ≡ bad m
unfolding shows
unflagged-refused c n b u e = rw (u, e)

pub no-binary2-read : {c : Column} {f : Bool} {s : List ℕ} {n : ℕ} → AreBytes s → NoBinary2Cell c f s n → read_binary2 c f s ≡ bad n
unfolding read_binary2
no-binary2-read {s = s} a (cut-count h k) = rw (count-short h s k)
no-binary2-read a (over-bound rest h e b k) = rw (e, count-over h b (omega arith) rest)
no-binary2-read {c} a (cut-content b {n = n} e h k l) = rw (e, counted-read h b, first_short (content_bytes (shape c.kind) n) b (omega (arith, takes-read k)))
no-binary2-read {c} a (padding-not-0 {b = b} rest {n = n} u e h k p) =
    rw (e, counted-read h (b ++ rest), first_back (content_bytes (shape c.kind) n) b rest (bits-long-as k p), unflagged-refused c n b u (bits-refused k p))
no-binary2-read {c} {s = s} a (no-byte-value {a = d} b rest {n = n} u e h k l i none) =
    let w : length b ≡ content_bytes (shape c.kind) n = l ∙ sym (takes-read k) in
    let q : AreBytes b = (later-bytes s d b rest e a).0 in
    let r : content (shape c.kind) n b ≡ bad 11 = refused (not-bits (shape c.kind) n b i refl) (holds-weaken (content-is (shape c.kind) n b w q) none) in
    rw (e, counted-read h (b ++ rest), first_back (content_bytes (shape c.kind) n) b rest w, unflagged-refused c n b u r)

pub no-binary2-is : (c : Column) (f : Bool) (s : List ℕ) → AreBytes s → Fails (NoBinary2Cell c f s) (read_binary2 c f s)
unfolding read_binary2
no-binary2-is c f s a =
    fails-then (count-refused c.len s (λ h k. cut-count h k) (λ b rest n h e k l. over-bound rest h e k l)) (counted_is c.len s) (λ n h.
    fails-then (first-refused (content_bytes (shape c.kind) n.0) n.1 (λ l. cut-content n.1 h.whole h.spelled (takes-is (shape c.kind) n.0) l))
    (first-splits (content_bytes (shape c.kind) n.0) n.1) (λ p g.
    let e : s ≡ h.taken ++ (p.0 ++ p.1) = h.whole ∙ ap (λ (x : List ℕ). h.taken ++ x) g.1 in
    fails-bind (go f n.0 p.0 p.1 e h.spelled g.0 (later-bytes s h.taken p.0 p.1 e a).0) (λ x. gives)))
  where
    go : (f : Bool) (n : ℕ) {d : List ℕ} (b rest : List ℕ) → s ≡ d ++ (b ++ rest) → Counted c.len d n → length b ≡ content_bytes (shape c.kind) n → AreBytes b
        → Fails (NoBinary2Cell c f s) (shows c f n b)
    go true n b rest e h l q = unfold shows in gives
    go false n b rest e h l q = unfold shows in
        fails-bind (content-refused (shape c.kind) n b l q (λ k p. padding-not-0 rest refl e h k p)
        (λ i none. no-byte-value b rest refl e h (takes-is (shape c.kind) n) l i none)) (λ es. gives)

-- ---- the flags before a row's cells

pub no-flags-read : (n : ℕ) (s : List ℕ) (m : ℕ) → NoFlags n s m → read_flags n s ≡ bad m
unfolding read_flags bit_bytes
no-flags-read n s m (cut-flags h) = rw (first_short ((n + 7) / 8) s h)
no-flags-read n s m (spare-flag {a = a} rest e p) = rw (e, first_back ((n + 7) / 8) a rest (padding-long p), padding-read p)

pub no-flags-is : (n : ℕ) (s : List ℕ) → AreBytes s → Fails (NoFlags n s) (read_flags n s)
unfolding read_flags bit_bytes
no-flags-is n s a =
    fails-then (first-refused ((n + 7) / 8) s (λ l. cut-flags l)) (first-splits ((n + 7) / 8) s) (λ p g.
    fails-bind (unpack-refused n p.0 g.0 (parts-bytes s p.0 p.1 g.1 a).0 (λ k. spare-flag p.1 g.1 k)) (λ bits. gives))
