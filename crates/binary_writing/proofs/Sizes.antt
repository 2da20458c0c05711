-- How many bytes a cell takes, by the three shapes of a length; and that no cell takes many.
use Rattle.std.specs.Prelude.{Option, None, Some}
use Prim.Native.Nat.{◌+◌, ◌≤◌, zero-le, ℕ}
use Rattle.binary.proofs.Laws.{filled-length, scalar-room}
use Rattle.binary.specs.Binary.{bit_bytes, bytes_of, can_be_empty, content_bytes, count_bytes, elements_bytes, null_form, number, write_binary, write_binary2, zeros}
use Rattle.binary.specs.Clauses.{filled_bytes}
use Rattle.binary_writing.specs.Clauses.{elements_size, room_size}
use Rattle.number.proofs.Laws.{length_to}
use Rattle.number.specs.Number.{to_digits}
use Rattle.table.proofs.Laws.{cond_cases, last-le}
use Rattle.table.specs.Cell.{Cell, Fits, bound, fits-shown, is_char, most_elements, null, null_element, null_of_kind, room_in, shown}
use Rattle.table.specs.Clauses.{ShownUpTo, form_bytes, shown_as}
use Rattle.table.specs.Result.{Result, bad, good}
use Rattle.table.specs.Shape.{Bits, Shape, Text, Truths, Whole, shape}
use Rattle.table.specs.declared.Column.{Column}
use Rattle.table.specs.declared.Len.{Len}
use Rattle.table.specs.declared.Len.TheVariants.{Bounded, Fixed, Free}
use lib.Dec.{lit≤}
use lib.IntN.{ℤ}
use lib.ListN.{length, length-append, length-map, length-replicate, length-take, take}
use lib.Seq.{length-take-le}
use mathlib.Core.Bool.{cond, false, false≢true, true}
use mathlib.Core.Logic.{◌⊎◌, ⊎_elim}
use mathlib.Core.List.{List, [], ◌∷◌, map}
use mathlib.Core.Path.{◌∙◌, ◌≡◌, ap, refl}
use native.Mathlib.Nat.{le_of_eq, le_refl, le_trans, mul-le-mul, zero-add}
use native.Mathlib.Omega.{arith}

-- ---- elements

pub filled-char : (k : Shape) (n m : ℕ) → is_char k ≡ true → filled_bytes k n m ≡ n
unfolding filled_bytes content_bytes
filled-char Truths n m h = absurd (false≢true h)
filled-char Bits n m h = absurd (false≢true h)
filled-char (Whole g v) n m h = absurd (false≢true h)
filled-char Text n m h = refl

pub filled-other : (k : Shape) (n m : ℕ) → is_char k ≡ false → filled_bytes k n m ≡ content_bytes k m
unfolding filled_bytes
filled-other k n m h = rw h

filled-self : (k : Shape) (m : ℕ) → filled_bytes k m m ≡ content_bytes k m
unfolding filled_bytes
filled-self k m = ap (content_bytes k) (cond_cases (λ (n : ℕ). n ≡ m) (is_char k) m m (λ _. refl) (λ _. refl))

pub elements-fixed : (c : Column) (n m : ℕ) → c.len ≡ Fixed n → elements_size c m ≡ filled_bytes (shape c.kind) n m
unfolding elements_size count_bytes
elements-fixed c n m e = rw e (zero-add _)

-- a column of any other length begins with a count
abbrev pub Counted : Len → Type 0
Counted l = ((n : ℕ) × (l ≡ Bounded n)) ⊎ (l ≡ Free)

pub count-long : (l : Len) (m : ℕ) → Counted l → count_bytes l m ≡ to_digits 256 4 m
unfolding count_bytes
count-long l m e = ⊎_elim (λ b. rw b.1) (λ f. rw f) e

pub four-long : (l : Len) (m : ℕ) → Counted l → length (count_bytes l m) ≡ 4
four-long l m e = ap length (count-long l m e) ∙ length_to 256 4 m

pub room-shown : (l : Len) (m : ℕ) → Counted l → room_in l m ≡ m
room-shown l m e = ⊎_elim (λ b. rw b.1) (λ f. rw f) e

pub elements-counted : (c : Column) (m : ℕ) → Counted c.len → elements_size c m ≡ 4 + content_bytes (shape c.kind) m
unfolding elements_size
elements-counted c m e = rw (four-long c.len m e, room-shown c.len m e, filled-self (shape c.kind) m)

pub empty-counted : (k : Shape) (l : Len) → Counted l → true ≡ can_be_empty k l
unfolding can_be_empty
empty-counted k l e = ⊎_elim (λ b. rw b.1) (λ f. rw f) e

pub room_bound : (l : Len) (m : ℕ) → m ≤ bound l → room_in l m ≤ bound l
room_bound (Fixed n) m h = le_refl n
room_bound (Bounded n) m h = h
room_bound Free m h = h

pub has_room : (l : Len) (m : ℕ) → m ≤ bound l → m ≤ room_in l m
has_room (Fixed n) m h = h
has_room (Bounded n) m h = le_refl m
has_room Free m h = le_refl m

pub elements-length : (c : Column) (es : List ℤ) → length es ≤ bound c.len → length (elements_bytes c es) ≡ elements_size c (length es)
unfolding elements_bytes elements_size
elements-length c es h =
    let k : Shape = shape c.kind in
    let n : ℕ = room_in c.len (length es) in
    length-append (count_bytes c.len (length es)) (bytes_of k n (map (number k) es))
    ∙ ap (λ (j : ℕ). length (count_bytes c.len (length es)) + j) (filled-length n (map (number k) es) k (rw length-map (has_room c.len (length es) h))
    ∙ ap (filled_bytes k n) (length-map es (number k)))

pub held-length : (c : Column) (count : ℕ) (scratch : List ℤ) → count ≤ bound c.len → count ≤ length scratch
    → length (elements_bytes c (take count scratch)) ≡ elements_size c count
held-length c count scratch few h =
    let e : length (take count scratch) ≡ count = length-take-le count scratch h in
    elements-length c (take count scratch) (rw e few) ∙ ap (elements_size c) e

-- ---- room, and zero bytes

pub room-fixed : (c : Column) (n m : ℕ) → c.len ≡ Fixed n → room_size c m ≡ content_bytes (shape c.kind) n
unfolding room_size count_bytes
room-fixed c n m e = rw e (zero-add _)

pub room-counted : (c : Column) (m : ℕ) → Counted c.len → room_size c m ≡ 4 + content_bytes (shape c.kind) m
unfolding room_size
room-counted c m e = rw (four-long c.len m e, room-shown c.len m e)

pub zeros-length : (c : Column) → length (zeros c) ≡ room_size c 0
unfolding zeros room_size
zeros-length c = simp (length-append, length-replicate)

-- ---- no cell takes many bytes

-- a cell of no more elements than its column's bound
abbrev pub Few : Column → Cell → Type 0
Few c null = Unit {0}
Few c (shown es) = length es ≤ bound c.len

pub shown-few : (c : Column) (cell : Option ℕ) (scratch : List ℤ) → ShownUpTo (bound c.len) cell → Few c (shown_as scratch cell)
shown-few c None scratch h = tt
shown-few c (Some count) scratch h = rw length-take (omega arith)

-- what was read has no more than its column's bound
pub fits_count : (c : Column) (count : ℕ) (scratch : List ℤ) → Fits c (shown (take count scratch)) → count ≤ length scratch → count ≤ bound c.len
fits_count c count scratch (fits-shown e n) h = rw (length-take-le count scratch h) at e.few

count_most : (l : Len) (m : ℕ) → length (count_bytes l m) ≤ 4
unfolding count_bytes
count_most (Fixed n) m = zero-le
count_most (Bounded n) m = le_of_eq (length_to 256 4 m)
count_most Free m = le_of_eq (length_to 256 4 m)

content-most : (k : Shape) (n : ℕ) → n ≤ most_elements → content_bytes k n ≤ 32768
unfolding content_bytes bit_bytes
content-most Truths n h = omega arith
content-most Bits n h = omega arith
content-most (Whole g v) n h = le_trans (mul-le-mul h (last-le v)) (lit≤ tt)
content-most Text n h = omega arith

zeros-most : (c : Column) → bound c.len ≤ most_elements → length (zeros c) ≤ 40000
unfolding room_size
zeros-most c b =
    omega (arith, zeros-length c, count_most c.len 0, content-most (shape c.kind) (room_in c.len 0) (le_trans (room_bound c.len 0 zero-le) b))

elements-most : (c : Column) (es : List ℤ) → bound c.len ≤ most_elements → length es ≤ bound c.len → length (elements_bytes c es) ≤ 40000
unfolding elements_size filled_bytes
elements-most c es b h =
    let k : Shape = shape c.kind in
    let m : ℕ = length es in
    let n : ℕ = room_in c.len m in
    let most : cond (is_char k) n m ≤ bound c.len = cond_cases (λ (j : ℕ). j ≤ bound c.len) (is_char k) n m (λ _. room_bound c.len m h) (λ _. h) in
    omega (arith, elements-length c es h, count_most c.len m, content-most k (cond (is_char k) n m) (le_trans most b))

pub binary2-size : (c : Column) (x : Cell) → bound c.len ≤ most_elements → Few c x → length (write_binary2 c x) ≤ 40000
unfolding write_binary2
binary2-size c null b f = zeros-most c b
binary2-size c (shown es) b f = elements-most c es b f

null_size : (c : Column) (o : Option ℤ) → null_element c ≡ o → bound c.len ≤ most_elements → length (form_bytes (null_form c o)) ≤ 40000
unfolding null_form null_element
null_size c None q b =
    cond_cases (λ (r : Result ℕ (List ℕ)). length (form_bytes r) ≤ 40000) (can_be_empty (shape c.kind) c.len) (good (elements_bytes c [])) (bad 15)
    (λ _. elements-most c [] b zero-le) (λ _. zero-le)
null_size c (Some z) q b =
    elements-most c (z ∷ []) b (scalar-room (shape c.kind) c.len (null_of_kind (shape c.kind) c.null) z q).1

pub binary-size : (c : Column) (x : Cell) → bound c.len ≤ most_elements → Few c x → length (form_bytes (write_binary c x)) ≤ 40000
unfolding write_binary
binary-size c null b f = null_size c (null_element c) refl b
binary-size c (shown []) b f = zero-le
binary-size c (shown (e ∷ es)) b f = elements-most c (e ∷ es) b f
