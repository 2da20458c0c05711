-- What is written in BINARY and BINARY2 are bytes: each number below 256.
use Rattle.std.specs.Prelude.{Option, None, Some}
use Prim.Native.Nat.{◌*◌, ◌+◌, ◌-◌, ◌<◌, ◌^◌, ◌≤◌, suc, zero, ℕ}
use native.Mathlib.Nat.{pow-le-pow_right}
use native.Mathlib.Omega.{arith}
use mathlib.Core.Bool.{true}
use mathlib.Core.List.{List, [], ◌∷◌, map}
use mathlib.Core.Path.{◌≡◌, refl}
use lib.Dec.{lit<}
use lib.IntN.{ℤ}
use lib.ListN.{drop, length, length-take, replicate, take}
use Rattle.binary.proofs.Laws.{numbers-are}
use Rattle.binary.proofs.RowFlags.{flags-small}
use Rattle.binary.specs.Binary.{bit_bytes, bytes_of, can_be_empty, content_bytes, count_bytes, elements_bytes, groups, null_form, number, pack, packed, write_binary, write_binary2, zeros}
use Rattle.demands.specs.Tables.{lines}
use Rattle.number.proofs.Laws.{all-to, of_lt, pattern_lt}
use Rattle.number.specs.Number.{of_digits, to_digits}
use Rattle.rows.proofs.Sequences.{AllRows}
use Rattle.rows.proofs.Laws.{FitsAll}
use Rattle.rows.specs.Stream.{Table, write_cell, write_cells, write_end, write_row, write_start}
use Rattle.rows.specs.Sequence.{finished, row, stopped}
use Rattle.table.proofs.Laws.{all_append, all_drop, all_replicate, all_take, holds_as, holds-bind, holds-cond}
use Rattle.table.specs.All.{All, AreBytes}
use Rattle.table.specs.Cell.{AreColumns, Cell, Fits, IsColumn, fits-shown, is_element, is_null, null, null_element, room_in, shown}
use Rattle.table.specs.Outcome.{at}
use Rattle.table.specs.Result.{Holds, holds, refuses}
use Rattle.table.specs.Shape.{Bits, Shape, Text, Truths, Whole, last, shape}
use Rattle.table.specs.declared.Column.{Column}
use Rattle.table.specs.declared.Len.{Len}
use Rattle.table.specs.declared.Len.TheVariants.{Bounded, Fixed, Free}
use Rattle.table.specs.declared.Rows.{Rows}
use Rattle.table.specs.declared.Rows.TheVariants.{Binary, Binary2}

abbrev IsByte : ℕ → Type 0
IsByte b = b < 256

digits-bytes : (w n : ℕ) → AreBytes (to_digits 256 w n)
digits-bytes w n = all-to 256 (lit< tt) w n

groups-bytes : (w : ℕ) (ns : List ℕ) → AreBytes (groups w ns)
unfolding groups
groups-bytes w [] = tt
groups-bytes w (n ∷ ns) = all_append IsByte (to_digits 256 w n) (groups w ns) (digits-bytes w n) (groups-bytes w ns)

count-bytes : (l : Len) (m : ℕ) → AreBytes (count_bytes l m)
unfolding count_bytes
count-bytes (Fixed n) m = tt
count-bytes (Bounded n) m = digits-bytes 4 m
count-bytes Free m = digits-bytes 4 m

packed-bytes : (k : ℕ) (bits : List ℕ) → All (λ (b : ℕ). b < 2) bits → AreBytes (packed k bits)
unfolding packed
packed-bytes zero bits a = tt
packed-bytes (suc k) bits a =
    let h : of_digits 2 0 (take 8 bits) < 2 ^ length (take 8 bits) = of_lt 2 (lit< tt) (take 8 bits) (all_take _ 8 bits a) in
    let l : length (take 8 bits) ≤ 8 = rw length-take (omega arith) in
    let p : 2 ^ length (take 8 bits) ≤ 2 ^ 8 = pow-le-pow_right (lit< tt) l in
    (omega arith, packed-bytes k (drop 8 bits) (all_drop _ 8 bits a))

pack-bytes : (bits : List ℕ) → All (λ (b : ℕ). b < 2) bits → AreBytes (pack bits)
unfolding pack
pack-bytes bits a =
    packed-bytes _ _ (all_append _ bits (replicate (8 * bit_bytes (length bits) - length bits) 0) a (all_replicate (λ (b : ℕ). b < 2) (8 * bit_bytes (length bits) - length bits) 0 (lit< tt)))

chars-bytes : (es : List ℤ) → AreBytes (map (number Text) es)
unfolding number
chars-bytes [] = tt
chars-bytes (e ∷ es) = (pattern_lt 1 e, chars-bytes es)

bytes-of : (k : Shape) (n : ℕ) (es : List ℤ) → All (λ (e : ℤ). is_element k e ≡ true) es → AreBytes (bytes_of k n (map (number k) es))
unfolding bytes_of
bytes-of Truths n es a = groups-bytes 1 _
bytes-of Bits n es a = pack-bytes _ (numbers-are Bits es a)
bytes-of (Whole g v) n es a = groups-bytes (suc (last v)) _
bytes-of Text n es a =
    let m : ℕ = n - length (map (number Text) es) in
    all_append IsByte (map (number Text) es) (replicate m 0) (chars-bytes es) (all_replicate IsByte m 0 (lit< tt))

elements-bytes : (c : Column) (es : List ℤ) → All (λ (e : ℤ). is_element (shape c.kind) e ≡ true) es → AreBytes (elements_bytes c es)
unfolding elements_bytes
elements-bytes c es a = all_append IsByte (count_bytes c.len (length es)) _ (count-bytes c.len (length es)) (bytes-of (shape c.kind) _ es a)

binary2-bytes : (c : Column) (x : Cell) → Fits c x → AreBytes (write_binary2 c x)
unfolding write_binary2 zeros
binary2-bytes c null f =
    let m : ℕ = content_bytes (shape c.kind) (room_in c.len 0) in
    all_append IsByte (count_bytes c.len 0) (replicate m 0) (count-bytes c.len 0) (all_replicate IsByte m 0 (lit< tt))
binary2-bytes c (shown es) (fits-shown e n) = elements-bytes c es e.each

null-bytes : (c : Column) → IsColumn c → Holds AreBytes (null_form c (null_element c))
null-bytes c i = go (null_element c) i.null_is
  where
    go : (o : Option ℤ) → ((z : ℤ) → o ≡ Some z → is_element (shape c.kind) z ≡ true) → Holds AreBytes (null_form c o)
    go None h = unfold null_form in holds-cond (can_be_empty (shape c.kind) c.len) (λ _. holds (elements-bytes c [] tt)) (λ _. refuses)
    go (Some z) h = unfold null_form in holds (elements-bytes c (z ∷ []) (h z refl, tt))

binary-bytes : (c : Column) (x : Cell) → IsColumn c → Fits c x → Holds AreBytes (write_binary c x)
unfolding write_binary
binary-bytes c null i f = null-bytes c i
binary-bytes c (shown []) i f = refuses
binary-bytes c (shown (e ∷ es)) i (fits-shown h n) = holds (elements-bytes c (e ∷ es) h.each)

-- ---- rows and lines, in the two binary kinds

pub data IsBinary : Rows → Type 0 where
  the-binary : IsBinary Binary
  the-binary2 : IsBinary Binary2

cell-bytes : {to : Rows} → IsBinary to → (c : Column) (x : Cell) → IsColumn c → Fits c x → Holds AreBytes (write_cell to c x)
unfolding write_cell
cell-bytes the-binary c x i f = binary-bytes c x i f
cell-bytes the-binary2 c x i f = holds (binary2-bytes c x f)

cells-bytes : {to : Rows} → IsBinary to → (cs : List Column) (xs : List Cell) (k : ℕ) → All IsColumn cs → FitsAll cs xs → Holds AreBytes (write_cells to cs xs k)
unfolding write_cells
cells-bytes b [] xs k i f = holds tt
cells-bytes b (c ∷ cs) [] k i f = holds tt
cells-bytes b (c ∷ cs) (x ∷ xs) k i f =
    holds-bind (holds_as (at k) (cell-bytes b c x i.0 f.0)) (λ p h. holds-bind (cells-bytes b cs xs (k + 1) i.1 f.1) (λ q g. holds (all_append IsByte p q h g)))

start-bytes : {to : Rows} → IsBinary to → (xs : List Cell) → AreBytes (write_start to xs)
unfolding write_start
start-bytes the-binary xs = tt
start-bytes the-binary2 xs = pack-bytes _ (flags-small (map is_null xs))

end-bytes : {to : Rows} → IsBinary to → AreBytes (write_end to)
unfolding write_end
end-bytes the-binary = tt
end-bytes the-binary2 = tt

pub lines-bytes : {to : Rows} → IsBinary to → (cs : List Column) → AreColumns cs → (t : Table) → AllRows (FitsAll cs) t → Holds AreBytes (lines to cs t)
unfolding lines write_row
lines-bytes b cs i finished f = holds tt
lines-bytes b cs i (stopped e) f = holds tt
lines-bytes {to} b cs i (row xs t) f =
    holds-bind (holds-bind (cells-bytes b cs xs 0 i.each f.0) (λ p h.
    holds (all_append IsByte (write_start to xs) _ (start-bytes b xs) (all_append IsByte p (write_end to) h (end-bytes b))))) (λ q h.
    holds-bind (lines-bytes b cs i t f.1) (λ r g. holds (all_append IsByte q r h g)))
