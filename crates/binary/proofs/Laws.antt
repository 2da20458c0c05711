-- Laws of binary cells: bits, numbers, content and cells that are written are read back; what is read fits its column.
use Rattle.std.specs.Prelude.{Option, None, Some}
use Prim.Native.Nat.{◌*◌, ◌+◌, ◌-◌, ◌/◌, ◌<◌, ◌^◌, ◌≤◌, suc, zero, zero-le, ℕ}
use native.Mathlib.Nat.{le_of_eq, le_refl, le_trans, mod-eq_of_lt, zero-mul}
use native.Mathlib.Omega.{arith}
use mathlib.Core.Bool.{Bool, ◌&&◌, ◌||◌, cond, false, false≢true, not, true}
use mathlib.Core.List.{List, [], ◌++◌, ◌∷◌, append_assoc, map}
use mathlib.Core.Path.{◌∙◌, ◌≡◌, ap, ap₂, refl, sym}
use lib.Dec.{eqb, leb, lit<, lit≤, ltb}
use lib.IntN.{negsuc, pos, ℤ}
use lib.ListN.{drop, length, length-append, length-drop, length-map, length-replicate, length-take, replicate, take, take-append-drop}
use lib.Seq.{drop_at, take_at}
use borrow.Author.Tests.{eq-eqb, eqb-false, eqb-true, le-leb, le-ltb, leb-true, lt-ltb, ltb-false, ltb-true, ne_eqb}
use Rattle.binary.specs.Binary.{all_zero, at_most, before_nul, bit_bytes, bit_of, bits_of, bytes_of, can_be_empty, content, content_bytes, count_bytes, count_in, counted}
use Rattle.binary.specs.Binary.{element, elements_bytes, first_bytes, groups, null_form, number, numbers, numbers_in, pack, packed, read_binary, read_binary2, shows, truth}
use Rattle.binary.specs.Binary.{unpack, write_binary, write_binary2, zeros}
use Rattle.binary.specs.Clauses.{filled_bytes}
use Rattle.number.proofs.Laws.{all-to, in-range, length_to, of_lt, of-pattern, of-to, pattern_lt, to-of}
use Rattle.number.specs.Number.{of_digits, pattern, to_digits}
use Rattle.table.proofs.Laws.{Numbered, all_append, all_drop, all_replicate, all_take, cond_cases, fails-bind, fails-cond, fails-every, holds-any, holds-bind}
use Rattle.table.proofs.Laws.{holds-cond, holds-weaken, null-stands, show-fits}
use Rattle.table.specs.All.{All, AreBytes}
use Rattle.table.specs.Bytes.{byte}
use Rattle.table.specs.Cell.{Cell, Elements, Fits, IsColumn, below, bound, column_of, empty_is_null, fits-null, fits-shown, is_char, is_element, is_null, is_null_list, is_one, most_elements}
use Rattle.table.specs.Cell.{null, null_element, null_of_kind, room_fits, room_in, show, shown, truth_byte}
use Rattle.table.specs.Result.{Fails, Holds, every, fails, gives, good, holds, refuses}
use Rattle.table.specs.Shape.{Bits, Shape, Text, Truths, Whole, last, shape}
use Rattle.table.specs.declared.Column.{Column}
use Rattle.table.specs.declared.Kind.TheVariants.{Short}
use Rattle.table.specs.declared.Len.{Len}
use Rattle.table.specs.declared.Len.TheVariants.{Bounded, Fixed, Free}

-- ---- "Its count is read and checked; its content is skipped unread."

pub flagged-unread : (c : Column) (n : ℕ) (p : List ℕ) → shows c true n p ≡ good null
unfolding shows
flagged-unread c n p = refl

-- ---- bits

bits_of-packed : (k : ℕ) (bits : List ℕ) → length bits ≡ 8 * k → All (λ (b : ℕ). b < 2) bits → bits_of (packed k bits) ≡ bits
unfolding bits_of packed
bits_of-packed zero [] h a = refl
bits_of-packed zero (b ∷ bits) h a = absurd (omega arith)
bits_of-packed (suc k) bits h a =
    let e : length (take 8 bits) ≡ 8 = length-take 8 bits ∙ omega arith in
    let p : to_digits 2 8 (of_digits 2 0 (take 8 bits)) ≡ take 8 bits = rw e at (to-of 2 (lit< tt) 0 (take 8 bits) (all_take _ 8 bits a)) in
    ap₂ ◌++◌ p
    (bits_of-packed k (drop 8 bits) (length-drop 8 bits ∙ omega arith) (all_drop _ 8 bits a))
    ∙ take-append-drop 8 bits

length-packed : (k : ℕ) (bits : List ℕ) → length (packed k bits) ≡ k
unfolding packed
length-packed zero bits = refl
length-packed (suc k) bits = ap suc (length-packed k (drop 8 bits))

pub length-pack : (bits : List ℕ) → length (pack bits) ≡ bit_bytes (length bits)
unfolding pack
length-pack bits = length-packed _ _

pub all_zero-zeros : (n : ℕ) → all_zero (replicate n 0) ≡ true
unfolding all_zero
all_zero-zeros zero = refl
all_zero-zeros (suc n) = all_zero-zeros n

pub unpack-pack : (bits : List ℕ) → All (λ (b : ℕ). b < 2) bits → unpack (length bits) (pack bits) ≡ good bits
unfolding unpack pack bit_bytes
unpack-pack bits a =
    let k : ℕ = (length bits + 7) / 8 in
    let z : List ℕ = replicate (8 * k - length bits) 0 in
    let e : bits_of (packed k (bits ++ z)) ≡ bits ++ z = bits_of-packed k (bits ++ z) (length-append bits z ∙ simp length-replicate (omega arith))
    (all_append _ bits z a (all_replicate (λ (b : ℕ). b < 2) (8 * k - length bits) 0 (lit< tt))) in
    rw (e, drop_at bits z (length bits) refl, take_at bits z (length bits) refl, all_zero-zeros)

-- ---- numbers

pub numbers-groups : (w : ℕ) (ns : List ℕ) → All (λ (n : ℕ). n < 256 ^ w) ns → numbers w (length ns) (groups w ns) ≡ ns
unfolding numbers groups
numbers-groups w [] a = refl
numbers-groups w (n ∷ ns) a =
    rw (take_at (to_digits 256 w n) (groups w ns) w (length_to 256 w n), drop_at (to_digits 256 w n) (groups w ns) w (length_to 256 w n))
    (ap₂ (λ (x : ℕ) (xs : List ℕ). x ∷ xs) (of-to 256 (lit< tt) w n a.0) (numbers-groups w ns a.1))

pub length-groups : (w : ℕ) (ns : List ℕ) → length (groups w ns) ≡ length ns * w
unfolding groups
length-groups w [] = sym (zero-mul w)
length-groups w (n ∷ ns) = length-append (to_digits 256 w n) (groups w ns) ∙ omega (arith, length_to 256 w n, length-groups w ns)

pub before_nul-filled : (ns : List ℕ) (m : ℕ) → All (λ (n : ℕ). 0 < n) ns → before_nul (ns ++ replicate m 0) ≡ ns
unfolding before_nul
before_nul-filled [] zero a = refl
before_nul-filled [] (suc m) a = refl
before_nul-filled (n ∷ ns) m a = rw (ne_eqb n 0 (λ e. omega (arith, a.0, e))) (ap (λ (xs : List ℕ). n ∷ xs) (before_nul-filled ns m a.1))

-- ---- elements

and_left : (a b : Bool) → (a && b) ≡ true → a ≡ true
and_left true b h = refl
and_left false b h = h

truth-is : (n : ℕ) → Holds (λ (e : ℤ). below 3 e ≡ true) (truth n)
unfolding truth below
truth-is n =
    holds-cond (eqb n 84 || eqb n 116 || eqb n 49) (λ _. holds refl) (λ _.
    holds-cond (eqb n 70 || eqb n 102 || eqb n 48) (λ _. holds refl) (λ _.
    holds-cond (eqb n 0 || eqb n 32 || eqb n 63) (λ _. holds refl) (λ _. refuses)))

-- the numbers that stand for elements of a kind
abbrev pub IsNumber : Shape → ℕ → Type 0
IsNumber Truths n = n < 256
IsNumber Bits n = n < 2
IsNumber (Whole g v) n = n < 256 ^ suc (last v)
IsNumber Text n = 0 < n

bit-lt : (e : ℤ) → bit_of e < 2
unfolding bit_of
bit-lt (pos zero) = lit< tt
bit-lt (pos (suc zero)) = lit< tt
bit-lt (pos (suc (suc n))) = lit< tt
bit-lt (negsuc n) = lit< tt

letter-is : (n : ℕ) → (ltb n 128 && not (ltb n 1)) ≡ true → pattern 1 (pos n) ≡ n
unfolding pattern
letter-is n h = let few : n < 128 = ltb-true n 128 (and_left (ltb n 128) (not (ltb n 1)) h) in mod-eq_of_lt (omega arith)

pub number_is : (k : Shape) (e : ℤ) → is_element k e ≡ true → IsNumber k (number k e)
unfolding is_element number below truth_byte
number_is Truths (pos zero) h = lit< tt
number_is Truths (pos (suc zero)) h = lit< tt
number_is Truths (pos (suc (suc n))) h = lit< tt
number_is Truths (negsuc n) h = lit< tt
number_is Bits e h = bit-lt e
number_is (Whole g v) e h = pattern_lt (suc (last v)) e
number_is Text (pos zero) h = absurd (false≢true h)
number_is Text (pos (suc n)) h = rw (letter-is (suc n) h) (omega arith)
number_is Text (negsuc n) h = absurd (false≢true h)

pub element-number : (k : Shape) (e : ℤ) → is_element k e ≡ true → element k (number k e) ≡ good e
unfolding is_element number element below truth truth_byte bit_of
element-number Truths (pos zero) h = refl
element-number Truths (pos (suc zero)) h = refl
element-number Truths (pos (suc (suc zero))) h = refl
element-number Truths (pos (suc (suc (suc n)))) h = absurd (omega (arith, ltb-true (suc (suc (suc n))) 3 h))
element-number Truths (negsuc n) h = absurd (false≢true h)
element-number Bits (pos zero) h = refl
element-number Bits (pos (suc zero)) h = refl
element-number Bits (pos (suc (suc n))) h = absurd (omega (arith, ltb-true (suc (suc n)) 2 h))
element-number Bits (negsuc n) h = absurd (false≢true h)
element-number (Whole g v) e h = ap good (of-pattern g (last v) e h)
element-number Text (pos n) h = rw (letter-is n h, and_left (ltb n 128) (not (ltb n 1)) h)
element-number Text (negsuc n) h = absurd (false≢true h)

-- a number gives an element of the kind, if any
pub element-is : (k : Shape) (n : ℕ) → IsNumber k n → Holds (λ (e : ℤ). is_element k e ≡ true) (element k n)
unfolding is_element element below truth
element-is Truths n h = truth-is n
element-is Bits n h = holds (lt-ltb n 2 h)
element-is (Whole g v) n h = holds (in-range g (last v) n h)
element-is Text n h = holds-cond (ltb n 128) (λ t. holds (rw (t, le-ltb n 1 h))) (λ f. refuses)

pub every-number : (k : Shape) (es : List ℤ) → All (λ (e : ℤ). is_element k e ≡ true) es → every (element k) (map (number k) es) ≡ good es
unfolding every
every-number k [] a = refl
every-number k (e ∷ es) a = rw (element-number k e a.0, every-number k es a.1)

pub numbers-are : (k : Shape) (es : List ℤ) → All (λ (e : ℤ). is_element k e ≡ true) es → All (IsNumber k) (map (number k) es)
numbers-are k [] a = tt
numbers-are k (e ∷ es) a = (number_is k e a.0, numbers-are k es a.1)

pub every-is : (k : Shape) (ns : List ℕ) → All (IsNumber k) ns → Holds (λ (es : List ℤ). All (λ (e : ℤ). is_element k e ≡ true) es × (length es ≡ length ns)) (every (element k) ns)
unfolding every
every-is k [] a = holds (tt, refl)
every-is k (n ∷ ns) a =
    holds-bind (element-is k n a.0) (λ e h. holds-bind (every-is k ns a.1) (λ es g. holds ((h, g.0), ap suc g.1)))

-- ---- content

room-le : (k : Shape) (n m : ℕ) → room_fits k n m ≡ true → m ≤ n
unfolding room_fits
room-le k n m h = go (is_char k) h
  where
    go : (b : Bool) → cond b (leb m n) (eqb m n) ≡ true → m ≤ n
    go true h = leb-true m n h
    go false h = le_of_eq (eqb-true m n h)

-- elements that fit their room take the bytes of it
room-filled : (k : Shape) (n m : ℕ) → room_fits k n m ≡ true → cond (is_char k) n m ≡ n
unfolding room_fits
room-filled k n m h = go (is_char k) h
  where
    go : (b : Bool) → cond b (leb m n) (eqb m n) ≡ true → cond b n m ≡ n
    go true h = refl
    go false h = eqb-true m n h

module _ (n : ℕ) (ns : List ℕ) where
  pub numbers-back : (k : Shape) → room_fits k n (length ns) ≡ true → All (IsNumber k) ns → numbers_in k n (bytes_of k n ns) ≡ good ns
  unfolding numbers_in bytes_of room_fits
  numbers-back Truths h a = rw (← eqb-true (length ns) n h) (ap good (numbers-groups 1 ns a))
  numbers-back Bits h a = rw (← eqb-true (length ns) n h) (unpack-pack ns a)
  numbers-back (Whole g v) h a = rw (← eqb-true (length ns) n h) (ap good (numbers-groups (suc (last v)) ns a))
  numbers-back Text h a = ap good (before_nul-filled ns (n - length ns) a)

  -- fewer elements than have room: characters are filled up
  pub filled-length : (k : Shape) → length ns ≤ n → length (bytes_of k n ns) ≡ filled_bytes k n (length ns)
  unfolding bytes_of filled_bytes content_bytes
  filled-length Truths h = length-groups 1 ns ∙ omega arith
  filled-length Bits h = length-pack ns
  filled-length (Whole g v) h = length-groups (suc (last v)) ns
  filled-length Text h = simp (length-append, length-replicate) (omega arith)

  length-bytes : (k : Shape) → room_fits k n (length ns) ≡ true → length (bytes_of k n ns) ≡ content_bytes k n
  unfolding filled_bytes
  length-bytes k h = filled-length k (room-le k n (length ns) h) ∙ ap (content_bytes k) (room-filled k n (length ns) h)

pub content-back : (k : Shape) (n : ℕ) (es : List ℤ) → room_fits k n (length es) ≡ true → All (λ (e : ℤ). is_element k e ≡ true) es
    → content k n (bytes_of k n (map (number k) es)) ≡ good es
unfolding content
content-back k n es h a =
    rw (numbers-back n (map (number k) es) k (rw length-map h) (numbers-are k es a)) (every-number k es a)

-- ---- a cell

pub first_back : (n : ℕ) (p rest : List ℕ) → length p ≡ n → first_bytes n (p ++ rest) ≡ good (p, rest)
unfolding first_bytes
first_back n p rest h =
    rw (take_at p rest n h, drop_at p rest n h, le-ltb (length (p ++ rest)) n (simp length-append (omega arith)))

pub count-back : (l : Len) (m : ℕ) (t : List ℕ) → bound l ≤ most_elements → m ≤ bound l → count_in l (count_bytes l m ++ t) ≡ good (room_in l m, t)
unfolding count_in count_bytes counted at_most
count-back (Fixed n) m t b h = refl
count-back (Bounded n) m t b h =
    rw (first_back 4 (to_digits 256 4 m) t (length_to 256 4 m), of-to 256 (lit< tt) 4 m (omega arith), le-ltb n m h)
count-back Free m t b h =
    rw (first_back 4 (to_digits 256 4 m) t (length_to 256 4 m), of-to 256 (lit< tt) 4 m (omega arith), le-ltb most_elements m h)

-- "a 4-byte unsigned count of elements, not bytes": two shorts are counted as 2
counts-elements : take 4 (elements_bytes (column_of Short Free None) (pos 7 ∷ pos 8 ∷ [])) ≡ 0 ∷ 0 ∷ 0 ∷ 2 ∷ []
unfolding elements_bytes count_bytes to_digits content_bytes
counts-elements = refl

pub elements-back : (c : Column) (es : List ℤ) (rest : List ℕ) → IsColumn c → Elements c es
    → read_binary2 c false (elements_bytes c es ++ rest) ≡ good (show c es, rest)
unfolding read_binary2 elements_bytes shows
elements-back c es rest i x =
    let n : ℕ = room_in c.len (length es) in
    let ns : List ℕ = map (number (shape c.kind)) es in
    let h : room_fits (shape c.kind) n (length ns) ≡ true = rw length-map x.room in
    rw (
      append_assoc,
      count-back c.len (length es) (bytes_of (shape c.kind) n ns ++ rest) i.most-room x.few,
      first_back (content_bytes (shape c.kind) n) (bytes_of (shape c.kind) n ns) rest (length-bytes n ns (shape c.kind) h),
      content-back (shape c.kind) n es x.room x.each,
    )

pub zeros-back : (c : Column) (rest : List ℕ) → IsColumn c → read_binary2 c true (zeros c ++ rest) ≡ good (null, rest)
unfolding read_binary2 zeros shows
zeros-back c rest i =
    rw (append_assoc, count-back c.len 0 _ i.most-room zero-le, first_back _ _ rest (length-replicate _ _))

-- ---- room

pub room-self : (k : Shape) (m : ℕ) → room_fits k m m ≡ true
unfolding room_fits
room-self k m = cond_cases (λ (b : Bool). b ≡ true) (is_char k) (leb m m) (eqb m m) (λ _. le-leb m m (le_refl m)) (λ _. eq-eqb m m refl)

room_of : (k : Shape) (l : Len) (n m : ℕ) → room_in l n ≡ n → room_fits k n m ≡ true → room_fits k (room_in l m) m ≡ true
room_of k (Fixed n') n m q h = rw q h
room_of k (Bounded n') n m q h = room-self k m
room_of k Free n m q h = room-self k m

-- ---- written and read back

pub binary2-cell-back : (c : Column) (x : Cell) (rest : List ℕ) → IsColumn c → Fits c x
    → read_binary2 c (is_null x) (write_binary2 c x ++ rest) ≡ good (x, rest)
unfolding write_binary2 is_null show
binary2-cell-back c null rest i f = zeros-back c rest i
binary2-cell-back c (shown es) rest i (fits-shown e n) = elements-back c es rest i e ∙ rw n

none-some : {z : ℤ} → None ≡ Some z → ⊥
none-some h = let q : ◌≡◌ {A = ℕ} 0 1 = cc in omega arith

-- a null element's column is a scalar
pub scalar-room : (k : Shape) (l : Len) (o : Option ℤ) (z : ℤ) → cond (is_one l) o None ≡ Some z
    → (room_fits k (room_in l 1) 1 ≡ true) × (1 ≤ bound l)
unfolding room_fits
scalar-room k (Fixed n) o z h = go (eqb n 1) refl h
  where
    go : (b : Bool) → eqb n 1 ≡ b → cond b o None ≡ Some z → (room_fits k n 1 ≡ true) × (1 ≤ n)
    go true e h = (rw (eqb-true n 1 e) (room-self k 1), omega (arith, eqb-true n 1 e))
    go false e h = absurd (none-some h)
scalar-room k (Bounded n) o z h = absurd (none-some h)
scalar-room k Free o z h = absurd (none-some h)

pub empty-room : (k : Shape) (l : Len) → can_be_empty k l ≡ true → room_fits k (room_in l 0) 0 ≡ true
unfolding can_be_empty room_fits
empty-room k (Fixed n) h = rw h (le-leb 0 n zero-le)
empty-room k (Bounded n) h = room-self k 0
empty-room k Free h = room-self k 0

Back1 : Column → Cell → List ℕ → Type 0
Back1 c x b = (rest : List ℕ) → read_binary c (b ++ rest) ≡ good (x, rest)

-- "Null in BINARY: the declared null": a short's -99
declared-null-written : write_binary (column_of Short (Fixed 1) (Some (negsuc 98))) null ≡ good (0xFF ∷ 0x9D ∷ [])
unfolding write_binary null_form null_element elements_bytes count_bytes bytes_of groups number pattern to_digits zeros content_bytes
declared-null-written = refl

null-back : (c : Column) (o : Option ℤ) → null_element c ≡ o → IsColumn c → Holds (Back1 c null) (null_form c o)
unfolding null_element null_form Back1 read_binary show empty_is_null is_null_list
null-back c None q i =
    holds-cond (can_be_empty (shape c.kind) c.len)
    (λ t. holds (λ rest. rw (elements-back c [] rest i (record { each = tt; room = empty-room (shape c.kind) c.len t; few = zero-le })))) (λ _. refuses)
null-back c (Some z) q i =
    let s : (room_fits (shape c.kind) (room_in c.len 1) 1 ≡ true) × (1 ≤ bound c.len) = scalar-room (shape c.kind) c.len (null_of_kind (shape c.kind) c.null) z q in
    holds {a = elements_bytes c (z ∷ [])} (λ rest. rw (elements-back c (z ∷ []) rest i (record { each = (i.null_is z q, tt); room = s.0; few = s.1 }), null-stands c z q))

pub binary-cell-back : (c : Column) (x : Cell) → IsColumn c → Fits c x → Holds (λ (b : List ℕ). (rest : List ℕ) → read_binary c (b ++ rest) ≡ good (x, rest)) (write_binary c x)
unfolding write_binary read_binary show empty_is_null Back1
binary-cell-back c null i f = null-back c (null_element c) refl i
binary-cell-back c (shown []) i f = refuses
binary-cell-back c (shown (e ∷ es)) i (fits-shown h n) = holds {a = elements_bytes c (e ∷ es)} (λ rest. rw (elements-back c (e ∷ es) rest i h, n))

-- ---- what is read fits

pub first-splits : (n : ℕ) (s : List ℕ) → Holds (λ (p : List ℕ × List ℕ). (length p.0 ≡ n) × (s ≡ p.0 ++ p.1)) (first_bytes n s)
unfolding first_bytes
first-splits n s =
    holds-cond (ltb (length s) n) (λ _. refuses)
    (λ f. holds (length-take n s ∙ omega (arith, ltb-false (length s) n f), sym (take-append-drop n s)))

pub first-is : (n : ℕ) (s : List ℕ) → AreBytes s → Holds (λ (p : List ℕ × List ℕ). (length p.0 ≡ n) × AreBytes p.0 × AreBytes p.1) (first_bytes n s)
unfolding first_bytes
first-is n s a =
    holds-cond (ltb (length s) n) (λ _. refuses)
    (λ f. holds (length-take n s ∙ omega (arith, ltb-false (length s) n f), all_take _ n s a, all_drop _ n s a))

counted_is : (most : ℕ) (s : List ℕ) → AreBytes s → Holds (λ (p : ℕ × List ℕ). (p.0 ≤ most) × AreBytes p.1) (counted most s)
unfolding counted at_most
counted_is most s a =
    holds-bind (first-is 4 s a) (λ p h. holds-cond (ltb most (of_digits 256 0 p.0)) (λ _. refuses) (λ f. holds (ltb-false _ _ f, h.2)))

abbrev Counted : Len → ℕ × List ℕ → Type 0
Counted l p = (room_in l p.0 ≡ p.0) × (p.0 ≤ bound l) × AreBytes p.1

count-is : (l : Len) (s : List ℕ) → AreBytes s → Holds (Counted l) (count_in l s)
unfolding count_in
count-is (Fixed n) s a = holds (refl, le_refl n, a)
count-is (Bounded n) s a = holds-weaken (counted_is n s a) (λ p h. (refl, h.0, h.1))
count-is Free s a = holds-weaken (counted_is most_elements s a) (λ p h. (refl, h.0, h.1))

abbrev Numbers : Shape → ℕ → List ℕ → Type 0
Numbers k n ns = All (IsNumber k) ns × (room_fits k n (length ns) ≡ true)

read-numbers : (w n : ℕ) (s : List ℕ) → length s ≡ n * w → AreBytes s → All (λ (x : ℕ). x < 256 ^ w) (numbers w n s) × (length (numbers w n s) ≡ n)
unfolding numbers
read-numbers w zero s h a = (tt, refl)
read-numbers w (suc n) s h a =
    let e : length (take w s) ≡ w = length-take w s ∙ omega arith in
    let r : All (λ (x : ℕ). x < 256 ^ w) (numbers w n (drop w s)) × (length (numbers w n (drop w s)) ≡ n) = read-numbers w n (drop w s) (length-drop w s ∙ omega arith) (all_drop _ w s a) in
    ((rw e at (of_lt 256 (lit< tt) (take w s) (all_take _ w s a)), r.0), ap suc r.1)

bits_are : (s : List ℕ) → All (λ (x : ℕ). x < 2) (bits_of s) × (length (bits_of s) ≡ length s * 8)
unfolding bits_of
bits_are [] = (tt, refl)
bits_are (b ∷ s) = (
  all_append _ (to_digits 2 8 b) (bits_of s) (all-to 2 (lit< tt) 8 b) (bits_are s).0,
  length-append (to_digits 2 8 b) (bits_of s) ∙ omega (arith, length_to 2 8 b, (bits_are s).1),
)

pub before_nul-are : (s : List ℕ) → All (λ (x : ℕ). 0 < x) (before_nul s) × (length (before_nul s) ≤ length s)
unfolding before_nul
before_nul-are [] = (tt, zero-le)
before_nul-are (b ∷ s) =
    cond_cases (λ (t : List ℕ). All (λ (x : ℕ). 0 < x) t × (length t ≤ suc (length s))) (eqb b 0) [] (b ∷ before_nul s)
    (λ _. (tt, zero-le)) (λ f. ((omega (arith, eqb-false b 0 f), (before_nul-are s).0), omega (arith, (before_nul-are s).1)))

in_is : (k : Shape) (n : ℕ) (s : List ℕ) → length s ≡ content_bytes k n → AreBytes s → Holds (Numbers k n) (numbers_in k n s)
unfolding numbers_in content_bytes room_fits unpack bit_bytes
in_is Truths n s h a = let r = read-numbers 1 n s (omega arith) a in holds (r.0, eq-eqb _ _ r.1)
in_is Bits n s h a =
    holds-cond (all_zero (drop n (bits_of s)))
    (λ _. holds (all_take _ n (bits_of s) (bits_are s).0, eq-eqb _ _ (length-take n (bits_of s) ∙ omega (arith, (bits_are s).1)))) (λ _. refuses)
in_is (Whole g v) n s h a = let r = read-numbers (suc (last v)) n s h a in holds (r.0, eq-eqb _ _ r.1)
in_is Text n s h a = holds ((before_nul-are s).0, le-leb (length (before_nul s)) n (omega (arith, (before_nul-are s).1)))

shows-is : (c : Column) (flagged : Bool) (n : ℕ) (s : List ℕ) → room_in c.len n ≡ n → n ≤ bound c.len → length s ≡ content_bytes (shape c.kind) n → AreBytes s
    → Holds (Fits c) (shows c flagged n s)
unfolding shows content
shows-is c true n s q b h a = holds fits-null
shows-is c false n s q b h a =
    holds-bind (holds-bind (in_is (shape c.kind) n s h a) (λ ns r. holds-weaken (every-is (shape c.kind) ns r.0)
    (λ es g. let m : room_fits (shape c.kind) n (length es) ≡ true = rw g.1 r.1 in fit es g.0 m)))
    (λ es e. holds (show-fits c es e))
  where
    fit : (es : List ℤ) → All (λ (e : ℤ). is_element (shape c.kind) e ≡ true) es → room_fits (shape c.kind) n (length es) ≡ true → Elements c es
    fit es x m = record { each = x; room = room_of (shape c.kind) c.len n (length es) q m; few = le_trans (room-le (shape c.kind) n (length es) m) b }

pub binary2-fits : (c : Column) (flagged : Bool) (s : List ℕ) → AreBytes s → Holds (λ (p : Cell × List ℕ). Fits c p.0 × AreBytes p.1) (read_binary2 c flagged s)
unfolding read_binary2
binary2-fits c flagged s a =
    holds-bind (count-is c.len s a) (λ n h.
    holds-bind (first-is (content_bytes (shape c.kind) n.0) n.1 h.2) (λ p g.
    holds-bind (shows-is c flagged n.0 p.0 h.0 h.1 g.0 g.1) (λ x f. holds (f, g.2))))

-- ---- a cell takes at least a byte

pub first-less : (n : ℕ) (s : List ℕ) → Holds (λ (p : List ℕ × List ℕ). length p.1 + n ≡ length s) (first_bytes n s)
unfolding first_bytes
first-less n s = holds-cond (ltb (length s) n) (λ _. refuses) (λ f. holds (omega (arith, ltb-false (length s) n f, length-drop n s)))

content-some : (k : Shape) (n : ℕ) → 1 ≤ n → 1 ≤ content_bytes k n
unfolding content_bytes bit_bytes
content-some Truths n h = h
content-some Bits n h = omega arith
content-some (Whole g v) n h = omega arith
content-some Text n h = h

counted-less : (most : ℕ) (s : List ℕ) → Holds (λ (p : ℕ × List ℕ). length p.1 < length s) (counted most s)
unfolding counted at_most
counted-less most s =
    holds-bind (first-less 4 s) (λ p h. holds-cond (ltb most (of_digits 256 0 p.0)) (λ _. refuses) (λ _. holds (omega arith)))

count_less : (k : Shape) (l : Len) (s : List ℕ) → 1 ≤ bound l → Holds (λ (p : ℕ × List ℕ). length p.1 < length s + content_bytes k p.0) (count_in l s)
unfolding count_in
count_less k (Fixed n) s h = holds {a = (n, s)} (omega (arith, content-some k n h))
count_less k (Bounded n) s h = holds-weaken (counted-less n s) (λ p g. omega arith)
count_less k Free s h = holds-weaken (counted-less most_elements s) (λ p g. omega arith)

pub binary-less : (c : Column) (flagged : Bool) (s : List ℕ) → IsColumn c → Holds (λ (p : Cell × List ℕ). length p.1 < length s) (read_binary2 c flagged s)
unfolding read_binary2
binary-less c flagged s i =
    holds-bind (count_less (shape c.kind) c.len s i.some-room) (λ n h.
    holds-bind (first-less (content_bytes (shape c.kind) n.0) n.1) (λ p g.
    holds-bind (holds-any (shows c flagged n.0 p.0)) (λ x _. holds (omega arith))))

-- ---- the numbers of its refusals

-- what is no element is 11
module _ {P : ℕ → Type 0} (eleven : P 11) where
  truth-fails : (n : ℕ) → Fails P (truth n)
  unfolding truth
  truth-fails n =
      fails-cond (eqb n (byte "T") || eqb n (byte "t") || eqb n (byte "1")) gives
      (fails-cond (eqb n (byte "F") || eqb n (byte "f") || eqb n (byte "0")) gives
      (fails-cond (eqb n 0x00 || eqb n 0x20 || eqb n 0x3F) gives (fails eleven)))

  pub element-fails : (k : Shape) (n : ℕ) → Fails P (element k n)
  unfolding element
  element-fails Truths n = truth-fails n
  element-fails Bits n = gives
  element-fails (Whole g v) n = gives
  element-fails Text n = fails-cond (ltb n 128) gives (fails eleven)

pub unpack-fails : (n : ℕ) (s : List ℕ) → Fails (Numbered 8 13) (unpack n s)
unfolding unpack
unpack-fails n s = fails-cond (all_zero (drop n (bits_of s))) gives (fails (lit≤ tt, lit≤ tt))

in-fails : (k : Shape) (n : ℕ) (s : List ℕ) → Fails (Numbered 8 13) (numbers_in k n s)
unfolding numbers_in
in-fails Truths n s = gives
in-fails Bits n s = unpack-fails n s
in-fails (Whole g v) n s = gives
in-fails Text n s = gives

pub first-fails : (n : ℕ) (s : List ℕ) → Fails (Numbered 8 13) (first_bytes n s)
unfolding first_bytes
first-fails n s = fails-cond (ltb (length s) n) (fails (lit≤ tt, lit≤ tt)) gives

counted-fails : (most : ℕ) (s : List ℕ) → Fails (Numbered 8 13) (counted most s)
unfolding counted at_most
counted-fails most s = fails-bind (first-fails 4 s) (λ p. fails-cond (ltb most (of_digits 256 0 p.0)) (fails (lit≤ tt, lit≤ tt)) gives)

count-fails : (l : Len) (s : List ℕ) → Fails (Numbered 8 13) (count_in l s)
unfolding count_in
count-fails (Fixed n) s = gives
count-fails (Bounded n) s = counted-fails n s
count-fails Free s = counted-fails most_elements s

shows-fails : (c : Column) (flagged : Bool) (n : ℕ) (p : List ℕ) → Fails (Numbered 8 13) (shows c flagged n p)
unfolding shows content
shows-fails c true n p = gives
shows-fails c false n p =
    fails-bind (fails-bind (in-fails (shape c.kind) n p) (λ ns. fails-every (element (shape c.kind)) (element-fails (lit≤ tt, lit≤ tt) (shape c.kind)) ns)) (λ es. gives)

pub binary2-fails : (c : Column) (flagged : Bool) (s : List ℕ) → Fails (Numbered 8 13) (read_binary2 c flagged s)
unfolding read_binary2
binary2-fails c flagged s =
    fails-bind (count-fails c.len s) (λ n.
    fails-bind (first-fails (content_bytes (shape c.kind) n.0) n.1) (λ p.
    fails-bind (shows-fails c flagged n.0 p.0) (λ x. gives)))

pub binary-fails : (c : Column) (s : List ℕ) → Fails (Numbered 8 13) (read_binary c s)
unfolding read_binary
binary-fails c s = fails-bind (binary2-fails c false s) (λ p. gives)

-- null without a form is 15
module _ {P : ℕ → Type 0} (fifteen : P 15) where
  pub null-fails : (c : Column) (o : Option ℤ) → Fails P (null_form c o)
  unfolding null_form
  null-fails c (Some z) = gives
  null-fails c None = fails-cond (can_be_empty (shape c.kind) c.len) gives (fails fifteen)

pub write-binary-fails : (c : Column) (x : Cell) → Fails (Numbered 14 16) (write_binary c x)
unfolding write_binary
write-binary-fails c null = null-fails (lit≤ tt, lit≤ tt) c (null_element c)
write-binary-fails c (shown []) = fails (lit≤ tt, lit≤ tt)
write-binary-fails c (shown (e ∷ es)) = gives
