-- What is written: the forms of a cell, a turn of each loop that writes, and the bytes of elements by their shape.
use Rattle.std.specs.Prelude.{Option, None, Some}
use Prim.Native.Nat.{◌%◌, ◌*◌, ◌+◌, ◌-◌, ◌/◌, ◌<◌, ◌^◌, ◌≤◌, suc, zero, ℕ}
use Rattle.binary.proofs.Digits.{drop-map, take-map}
use Rattle.binary.proofs.Laws.{length-groups, length-pack, scalar-room}
use Rattle.binary.proofs.Loops.{no_byte}
use Rattle.binary.specs.Binary.{bit_bytes, bit_of, bytes_of, can_be_empty, content_bytes, count_bytes, elements_bytes, groups, null_form, number, pack, packed, write_binary, zeros}
use Rattle.number.proofs.Laws.{low-pattern, of-append, pattern_lt, pow_pos}
use Rattle.number.specs.Number.{of_digits, pattern, to_digits}
use Rattle.std.specs.Simd.{first_chunks}
use Rattle.table.proofs.Laws.{last-le}
use Rattle.table.proofs.Places.{done, element-at}
use Rattle.table.specs.Cell.{bound, is_one, null_element, null_of_kind, room_in, shown, truth_byte}
use Rattle.table.specs.Clauses.{form_bytes}
use Rattle.table.specs.Result.{bad, good}
use Rattle.table.specs.Shape.{Bits, Shape, Text, Truths, Whole, Width, last, shape}
use Rattle.table.specs.declared.Column.{Column}
use Rattle.table.specs.declared.Len.{Len}
use Rattle.table.specs.declared.Len.TheVariants.{Bounded, Fixed, Free}
use borrow.Author.Tests.{eqb-true}
use lib.Dec.{eqb, lit<, lit≤}
use lib.IntN.{negsuc, pos, ℤ}
use lib.ListN.{drop, get_or, length, length-append, length-drop, length-map, length-replicate, replicate, take}
use lib.Pow.{pow-add, pow_mono, shl_exact}
use lib.Seq.{drop-append-le, drop-drop, length-take-le, take_all, take-append-le}
use mathlib.Core.Bool.{Bool, cond, false, false≢true, true}
use mathlib.Core.List.{List, [], ◌++◌, ◌∷◌, map}
use mathlib.Core.Path.{◌∙◌, ◌≡◌, ap, ap₂, refl, sym}
use native.Mathlib.Nat.{mul-le-mul_right, mul-one, pow-succ', sub-zero, suc-mul, zero-mul}
use native.Mathlib.Omega.{arith}

-- ---- a cell of elements

pub write-some : (c : Column) (es : List ℤ) → (length es ≡ 0 → ⊥) → write_binary c (shown es) ≡ good (elements_bytes c es)
unfolding write_binary
write-some c [] h = absurd (h refl)
write-some c (e ∷ es) h = refl

pub write-none : (c : Column) (es : List ℤ) → length es ≡ 0 → write_binary c (shown es) ≡ bad 14
unfolding write_binary
write-none c [] h = refl
write-none c (e ∷ es) h = absurd (omega arith)

-- ---- null in BINARY

-- an element that is written for null has a scalar column
scalar-length : (l : Len) (o : Option ℤ) (z : ℤ) → cond (is_one l) o None ≡ Some z → l ≡ Fixed 1
scalar-length (Fixed n) o z h = go (eqb n 1) refl h
  where
    go : (b : Bool) → eqb n 1 ≡ b → cond b o None ≡ Some z → Fixed n ≡ Fixed 1
    go true e h = ap Fixed (eqb-true n 1 e)
    go false e h = let q : ◌≡◌ {A = ℕ} 0 1 = cc in absurd (omega arith)
scalar-length (Bounded n) o z h = let q : ◌≡◌ {A = ℕ} 0 1 = cc in absurd (omega arith)
scalar-length Free o z h = let q : ◌≡◌ {A = ℕ} 0 1 = cc in absurd (omega arith)

module _ (c : Column) where
  pub null-bound : (z : ℤ) → null_element c ≡ Some z → 1 ≤ bound c.len
  unfolding null_element
  null-bound z q = (scalar-room (shape c.kind) c.len (null_of_kind (shape c.kind) c.null) z q).1

  pub null-some : (z : ℤ) → null_element c ≡ Some z → null_form c (null_element c) ≡ good (elements_bytes c (z ∷ []))
  unfolding null_form
  null-some z q = rw q

  -- a scalar has no count before its element, and room for one
  pub null-content : (z : ℤ) → null_element c ≡ Some z
      → form_bytes (null_form c (null_element c)) ≡ bytes_of (shape c.kind) 1 (map (number (shape c.kind)) (z ∷ []))
  unfolding null_element elements_bytes count_bytes
  null-content z q = ap form_bytes (null-some z q) ∙ rw (scalar-length c.len (null_of_kind (shape c.kind) c.null) z q)

  pub null-empty : null_element c ≡ None → can_be_empty (shape c.kind) c.len ≡ true → null_form c (null_element c) ≡ good (elements_bytes c [])
  unfolding null_form
  null-empty q h = rw (q, h)

  pub null-none : null_element c ≡ None → can_be_empty (shape c.kind) c.len ≡ false → null_form c (null_element c) ≡ bad 15
  unfolding null_form
  null-none q h = rw (q, h)

empty-bytes : (k : Shape) (n : ℕ) → n ≡ 0 → bytes_of k n [] ≡ replicate (content_bytes k n) 0
unfolding bytes_of content_bytes bit_bytes groups pack packed
empty-bytes Truths n e = rw e
empty-bytes Bits n e = rw e
empty-bytes (Whole g v) n e = rw (e, zero-mul (suc (last v)))
empty-bytes Text n e = rw e

empty-room-bytes : (k : Shape) (l : Len) → can_be_empty k l ≡ true → bytes_of k (room_in l 0) [] ≡ replicate (content_bytes k (room_in l 0)) 0
unfolding can_be_empty bytes_of content_bytes
empty-room-bytes k (Bounded n) h = empty-bytes k 0 refl
empty-room-bytes k Free h = empty-bytes k 0 refl
empty-room-bytes Truths (Fixed n) h = absurd (false≢true h)
empty-room-bytes Bits (Fixed n) h = absurd (false≢true h)
empty-room-bytes (Whole g v) (Fixed n) h = absurd (false≢true h)
empty-room-bytes Text (Fixed n) h = rw (sub-zero n)

-- a null that is an empty cell is written as zeros
pub empty-zeros : (c : Column) → can_be_empty (shape c.kind) c.len ≡ true → elements_bytes c [] ≡ zeros c
unfolding elements_bytes zeros
empty-zeros c h = ap (λ (b : List ℕ). count_bytes c.len 0 ++ b) (empty-room-bytes (shape c.kind) c.len h)

-- ---- a turn of each loop that writes

-- the elements from k on are the k-th and those after it
module _ (f : ℤ → ℕ) (es : List ℤ) (k : ℕ) where
  pub map-next : k < length es → map f (drop k es) ≡ f (get_or es k (pos 0)) ∷ map f (drop (k + 1) es)
  map-next h = ap (map f) (element-at es k (pos 0) h)

  pub map-end : length es ≤ k → map f (drop k es) ≡ []
  map-end h = ap (map f) (done es k h)

pub groups-next : (w : ℕ) (es : List ℤ) (k : ℕ) → k < length es
    → groups w (map (pattern 8) (drop k es)) ≡ to_digits 256 w (pattern 8 (get_or es k (pos 0))) ++ groups w (map (pattern 8) (drop (k + 1) es))
unfolding groups
groups-next w es k h = ap (groups w) (map-next (pattern 8) es k h)

pub groups-end : (w : ℕ) (es : List ℤ) (k : ℕ) → length es ≤ k → groups w (map (pattern 8) (drop k es)) ≡ []
unfolding groups
groups-end w es k h = ap (groups w) (map-end (pattern 8) es k h)

-- ---- the bytes of elements, by their shape

pub truth-bytes : (es : List ℤ) → map truth_byte es ≡ groups 1 (map (number Truths) es)
unfolding groups number to_digits truth_byte
truth-bytes [] = refl
truth-bytes (pos zero ∷ es) = ap (λ (l : List ℕ). 70 ∷ l) (truth-bytes es)
truth-bytes (pos (suc zero) ∷ es) = ap (λ (l : List ℕ). 84 ∷ l) (truth-bytes es)
truth-bytes (pos (suc (suc n)) ∷ es) = ap (λ (l : List ℕ). 63 ∷ l) (truth-bytes es)
truth-bytes (negsuc n ∷ es) = ap (λ (l : List ℕ). 63 ∷ l) (truth-bytes es)

text-bytes : (es : List ℤ) → groups 1 (map (pattern 8) es) ≡ map (number Text) es
unfolding groups number
text-bytes [] = refl
text-bytes (e ∷ es) = ap₂ ◌++◌ (low-pattern 1 e (lit≤ tt) ∙ one_byte (pattern 1 e) (pattern_lt 1 e)) (text-bytes es)
  where
    one_byte : (n : ℕ) → n < 256 ^ 1 → to_digits 256 1 n ≡ n ∷ []
    one_byte n h = unfold to_digits in ap (λ (x : ℕ). x ∷ []) (let e : n / 1 % 256 ≡ n = omega arith in e)

pub whole-bytes : (g : Bool) (v : Width) (es : List ℤ) → groups (suc (last v)) (map (pattern 8) es) ≡ groups (suc (last v)) (map (number (Whole g v)) es)
unfolding groups number
whole-bytes g v [] = refl
whole-bytes g v (e ∷ es) = ap₂ ◌++◌ (low-pattern (suc (last v)) e (last-le v)) (whole-bytes g v es)

-- ---- an element compared

pub bit-zero : (z : ℤ) → (z ≡ pos 1 → ⊥) → 0 ≡ bit_of z
unfolding bit_of
bit-zero (pos zero) h = refl
bit-zero (pos (suc zero)) h = absurd (h refl)
bit-zero (pos (suc (suc n))) h = refl
bit-zero (negsuc n) h = refl

pub length-integers : (w : ℕ) (es : List ℤ) → length (groups w (map (pattern 8) es)) ≡ length es * w
length-integers w es = length-groups w (map (pattern 8) es) ∙ ap (λ (k : ℕ). k * w) (length-map es (pattern 8))

-- ---- bits in a byte

pub digits-next : (b : ℕ) (es : List ℤ) (k : ℕ) → k < length es
    → of_digits 2 b (map bit_of (drop k es)) ≡ of_digits 2 (b * 2 + bit_of (get_or es k (pos 0))) (map bit_of (drop (k + 1) es))
unfolding of_digits
digits-next b es k h = ap (of_digits 2 b) (map-next bit_of es k h)

pub digits-end : (b : ℕ) (es : List ℤ) (k : ℕ) → length es ≤ k → of_digits 2 b (map bit_of (drop k es)) ≡ b
unfolding of_digits
digits-end b es k h = ap (of_digits 2 b) (map-end bit_of es k h)

pub few_bits : (j : ℕ) → j ≤ 8 → 2 ^ j ≤ 256
few_bits j h = pow_mono h

pub bits-grow : (j b r : ℕ) → b < 2 ^ j → r < 2 → b * 2 + r < 2 ^ (j + 1)
bits-grow j b r h k = omega (arith, pow-add 2 j 1)

module _ (b m : ℕ) (h : b < 2 ^ m) (few : m ≤ 8) where
  pub packed-exact : (b * 2 ^ (8 - m)) % 2 ^ 64 ≡ b * 2 ^ (8 - m)
  packed-exact = shl_exact m (8 - m) 64 h (omega arith)

  pub packed-small : b * 2 ^ (8 - m) < 256
  packed-small =
      let e : 2 ^ m * 2 ^ (8 - m) ≡ 256 = sym (pow-add 2 m (8 - m)) ∙ ap (λ (k : ℕ). 2 ^ k) (let d : m + (8 - m) ≡ 8 = omega arith in d) in
      let p : 0 < 2 ^ (8 - m) = pow_pos 2 (lit< tt) (8 - m) in
      omega (arith, e, p, suc-mul b (2 ^ (8 - m)), mul-le-mul_right {m = suc b} {n = 2 ^ m} (2 ^ (8 - m)) (let d : suc b ≤ 2 ^ m = omega arith in d))

-- ---- bits, eight to a byte

pack-more : (bits : List ℕ) → 8 ≤ length bits → pack bits ≡ of_digits 2 0 (take 8 bits) ∷ pack (drop 8 bits)
unfolding pack bit_bytes packed
pack-more bits h =
    let z : ℕ = 8 * ((length bits + 7) / 8) - length bits in
    let e : (length bits + 7) / 8 ≡ suc ((length (drop 8 bits) + 7) / 8) = omega (arith, length-drop 8 bits) in
    let k : z ≡ 8 * ((length (drop 8 bits) + 7) / 8) - length (drop 8 bits) = omega (arith, length-drop 8 bits) in
    ap (λ (n : ℕ). packed n (bits ++ replicate z 0)) e
    ∙ rw (take-append-le 8 bits (replicate z 0) h, drop-append-le 8 bits (replicate z 0) h, k)

of-zeros : (n a : ℕ) → of_digits 2 a (replicate n 0) ≡ a * 2 ^ n
unfolding of_digits
of-zeros zero a = sym (mul-one a)
of-zeros (suc n) a =
    of-zeros n (a * 2 + 0) ∙ let e : (a * 2 + 0) * 2 ^ n ≡ a * (2 * 2 ^ n) = omega arith in e ∙ ap (λ (k : ℕ). a * k) (sym (pow-succ' 2 n))

pack-last : (bits : List ℕ) → 0 < length bits → length bits < 8 → pack bits ≡ (of_digits 2 0 bits * 2 ^ (8 - length bits)) ∷ []
unfolding pack bit_bytes packed
pack-last bits p h =
    let e : (length bits + 7) / 8 ≡ 1 = omega arith in
    let z : List ℕ = replicate (8 - length bits) 0 in
    let l : length (bits ++ z) ≡ 8 = length-append bits z ∙ simp length-replicate (omega arith) in
    rw (e, take_all 8 (bits ++ z) (omega arith), of-append 2 0 bits z, of-zeros (8 - length bits) (of_digits 2 0 bits))

-- the k-th eight of the elements
pub eight-at : {A : Type 0} (d : List A) (n k : ℕ) (l : List A) → k < n → get_or (first_chunks 8 n l) k d ≡ take 8 (drop (8 * k) l)
eight-at d zero k l h = absurd (omega arith)
eight-at d (suc n) zero l h = refl
eight-at d (suc n) (suc k) l h = eight-at d n k (drop 8 l) (omega arith) ∙ ap (take 8) (drop-drop (8 * k) 8 l ∙ ap (λ (j : ℕ). drop j l) (omega arith))

module _ (es : List ℤ) where
  pub pack-next : (k : ℕ) → 8 * k + 8 ≤ length es
      → pack (drop (8 * k) (map bit_of es)) ≡ of_digits 2 0 (map bit_of (take 8 (drop (8 * k) es))) ∷ pack (drop (8 * (k + 1)) (map bit_of es))
  pack-next k h =
      let bits : List ℕ = map bit_of es in
      let o : 8 * k + 8 ≡ 8 * (k + 1) = omega arith in
      pack-more (drop (8 * k) bits) (omega (arith, length-drop (8 * k) bits, length-map es bit_of))
      ∙ ap₂ (λ (x y : List ℕ). of_digits 2 0 x ∷ pack y)
      (ap (take 8) (drop-map bit_of (8 * k) es) ∙ take-map bit_of 8 (drop (8 * k) es))
      (drop-drop 8 (8 * k) bits ∙ ap (λ (j : ℕ). drop j bits) o)

  -- a whole byte of bits is the number that they spell
  pub eight-byte : (k b : ℕ) → 8 * k + 8 ≤ length es → (let eight : List ℤ = take 8 (drop (8 * k) es) in b ≡ of_digits 2 0 (map bit_of eight) * 2 ^ (8 - length eight))
      → pack (drop (8 * k) (map bit_of es)) ≡ b ∷ pack (drop (8 * (k + 1)) (map bit_of es))
  eight-byte k b h e =
      let eight : List ℤ = take 8 (drop (8 * k) es) in
      let long : length eight ≡ 8 = length-take-le 8 (drop (8 * k) es) (omega (arith, length-drop (8 * k) es)) in
      let whole : b ≡ of_digits 2 0 (map bit_of eight) = e ∙ ap (λ (n : ℕ). of_digits 2 0 (map bit_of eight) * 2 ^ (8 - n)) long ∙ mul-one (of_digits 2 0 (map bit_of eight)) in
      pack-next k h ∙ ap (λ (x : ℕ). x ∷ pack (drop (8 * (k + 1)) (map bit_of es))) (sym whole)

  pub pack-end : (k : ℕ) → length es ≤ k → pack (drop k (map bit_of es)) ≡ []
  unfolding pack bit_bytes packed
  pack-end k h = rw (no_byte (map bit_of es) k (omega (arith, length-map es bit_of)))

  pub pack-left : (k : ℕ) → let left : List ℤ = drop k es in 0 < length left → length left < 8
      → pack (drop k (map bit_of es)) ≡ (of_digits 2 0 (map bit_of left) * 2 ^ (8 - length left)) ∷ []
  pack-left k p s =
      let left : List ℤ = drop k es in
      ap pack (drop-map bit_of k es)
      ∙ pack-last (map bit_of left) (rw length-map p) (rw length-map s)
      ∙ ap (λ (n : ℕ). (of_digits 2 0 (map bit_of left) * 2 ^ (8 - n)) ∷ []) (length-map left bit_of)

  pub length-packed : length (pack (map bit_of es)) ≡ bit_bytes (length es)
  length-packed = length-pack (map bit_of es) ∙ ap bit_bytes (length-map es bit_of)

-- ---- a cell of parts

pub zeros-as : (c : Column) (size : ℕ) → size ≡ content_bytes (shape c.kind) (room_in c.len 0) → count_bytes c.len 0 ++ replicate size 0 ≡ zeros c
unfolding zeros
zeros-as c size e = rw e

pub elements-as : (c : Column) (room : ℕ) (es : List ℤ) → room ≡ room_in c.len (length es)
    → count_bytes c.len (length es) ++ bytes_of (shape c.kind) room (map (number (shape c.kind)) es) ≡ elements_bytes c es
unfolding elements_bytes
elements-as c room es q = rw q

pub text-filled : (room : ℕ) (es : List ℤ) → groups 1 (map (pattern 8) es) ++ replicate (room - length es) 0 ≡ bytes_of Text room (map (number Text) es)
unfolding bytes_of
text-filled room es = ap₂ (λ (x : List ℕ) (k : ℕ). x ++ replicate (room - k) 0) (text-bytes es) (sym (length-map es (number Text)))
