-- A cell of BINARY and of BINARY2.
use Rattle.std.specs.Prelude.{◌*◌, ◌+◌, ◌-◌, ◌/◌, suc, zero, ℕ, Bool, ◌&&◌, ◌||◌, cond, false, true, List, [], ◌++◌, ◌∷◌, map, eqb, ltb, negsuc, pos, ℤ, drop, length, replicate, take, Option, None, Some}
use Rattle.number.specs.Number.{of_digits, of_pattern, pattern, to_digits}
use Rattle.table.specs.Bytes.{byte}
use Rattle.table.specs.Cell.{Cell, empty_is_null, is_char, most_elements, null, null_element, room_in, show, shown, truth_byte}
use Rattle.table.specs.Result.{Result, ◌>>=◌, bad, every, good}
use Rattle.table.specs.Shape.{Bits, Shape, Text, Truths, Whole, last, shape}
use Rattle.table.specs.declared.Column.{Column}
use Rattle.table.specs.declared.Len.{Len}
use Rattle.table.specs.declared.Len.TheVariants.{Bounded, Fixed, Free}

-- ---- an element and its number

-- "Boolean is one byte: `T t 1` true, `F f 0` false, 0x00, 0x20, 0x3F unknown."
unfoldable pub truth : ℕ → Result ℕ ℤ
truth b =
    cond (eqb b (byte "T") || eqb b (byte "t") || eqb b (byte "1")) (good (pos 1))
    (cond (eqb b (byte "F") || eqb b (byte "f") || eqb b (byte "0")) (good (pos 0))
    (cond (eqb b 0x00 || eqb b 0x20 || eqb b 0x3F) (good (pos 2)) (bad 11)))

-- a bit is 1 where its element is
unfoldable pub bit_of : ℤ → ℕ
bit_of (pos zero) = 0
bit_of (pos (suc zero)) = 1
bit_of (pos (suc (suc n))) = 0
bit_of (negsuc n) = 0

-- the element whose bytes (or bit) are this number; "Char is one byte below 128"
unfoldable pub element : Shape → ℕ → Result ℕ ℤ
element Truths n = truth n
element Bits n = good (pos n)
element (Whole g v) n = good (of_pattern g (suc (last v)) n)
element Text n = cond (ltb n 128) (good (pos n)) (bad 11)

unfoldable pub number : Shape → ℤ → ℕ
number Truths e = truth_byte e
number Bits e = bit_of e
number (Whole g v) e = pattern (suc (last v)) e
number Text e = pattern 1 e

-- ---- bits

-- "`b` bits take (b+7)/8 bytes rounded down"
unfoldable pub bit_bytes : ℕ → ℕ
bit_bytes n = (n + 7) / 8

-- "first bit highest"
unfoldable pub bits_of : List ℕ → List ℕ
bits_of [] = []
bits_of (b ∷ s) = to_digits 2 8 b ++ bits_of s

-- k bytes of bits
unfoldable pub packed : ℕ → List ℕ → List ℕ
packed zero bits = []
packed (suc k) bits = of_digits 2 0 (take 8 bits) ∷ packed k (drop 8 bits)

-- bits written: "padding 0"
unfoldable pub pack : List ℕ → List ℕ
pack bits = packed (bit_bytes (length bits)) (bits ++ replicate (8 * bit_bytes (length bits) - length bits) 0)

unfoldable pub all_zero : List ℕ → Bool
all_zero [] = true
all_zero (b ∷ s) = eqb b 0 && all_zero s

-- the first n bits of bytes; 13: "a padding bit that is 1"
unfoldable pub unpack : ℕ → List ℕ → Result ℕ (List ℕ)
unpack n s = cond (all_zero (drop n (bits_of s))) (good (take n (bits_of s))) (bad 13)

-- ---- content: the bytes of n elements

unfoldable pub content_bytes : Shape → ℕ → ℕ
content_bytes Truths n = n
content_bytes Bits n = bit_bytes n
content_bytes (Whole g v) n = n * suc (last v)
content_bytes Text n = n

-- n numbers of w bytes
unfoldable pub numbers : ℕ → ℕ → List ℕ → List ℕ
numbers w zero s = []
numbers w (suc n) s = of_digits 256 0 (take w s) ∷ numbers w n (drop w s)

-- "A char cell shows the characters before the first NUL, or all if there is none." "after the first NUL nothing is looked at"
unfoldable pub before_nul : List ℕ → List ℕ
before_nul [] = []
before_nul (b ∷ s) = cond (eqb b 0) [] (b ∷ before_nul s)

unfoldable pub numbers_in : Shape → ℕ → List ℕ → Result ℕ (List ℕ)
numbers_in Truths n s = good (numbers 1 n s)
numbers_in Bits n s = unpack n s
numbers_in (Whole g v) n s = good (numbers (suc (last v)) n s)
numbers_in Text n s = good (before_nul s)

-- the elements of a content: "then 13 or 11"
unfoldable pub content : Shape → ℕ → List ℕ → Result ℕ (List ℤ)
content k n s = numbers_in k n s >>= λ ns. every (element k) ns

-- ---- a cell is read

-- the first n bytes, and what follows them; 8: "BINARY or BINARY2 stream ends inside a row"
unfoldable pub first_bytes : ℕ → List ℕ → Result ℕ (List ℕ × List ℕ)
first_bytes n s = cond (ltb (length s) n) (bad 8) (good (take n s, drop n s))

-- 9: "element count over the column's bound"
unfoldable pub at_most : ℕ → ℕ → List ℕ → Result ℕ (ℕ × List ℕ)
at_most most n s = cond (ltb most n) (bad 9) (good (n, s))

-- "a 4-byte unsigned count of elements, not bytes"
unfoldable pub counted : ℕ → List ℕ → Result ℕ (ℕ × List ℕ)
counted most s = first_bytes 4 s >>= λ p. at_most most (of_digits 256 0 p.0) p.1

-- "Bounded and free columns begin with" a count
unfoldable pub count_in : Len → List ℕ → Result ℕ (ℕ × List ℕ)
count_in (Fixed n) s = good (n, s)
count_in (Bounded n) s = counted n s
count_in Free s = counted most_elements s

-- "A BINARY2 row begins with (columns+7)/8 bytes, rounded down, of flags: first column in the highest bit, .. spare bits 0": a bit for each
-- column, and what follows
unfoldable pub read_flags : ℕ → List ℕ → Result ℕ (List ℕ × List ℕ)
read_flags n s = first_bytes (bit_bytes n) s >>= λ p. unpack n p.0 >>= λ bits. good (bits, p.1)

-- "1 for null"
abbrev pub flag_bit : Bool → ℕ
flag_bit true = 1
flag_bit false = 0

-- "The flagged cell is still there. Its count is read and checked; its content is skipped unread."
unfoldable pub shows : Column → Bool → ℕ → List ℕ → Result ℕ Cell
shows c true n p = good null
shows c false n p = content (shape c.kind) n p >>= λ es. good (show c es)

-- "a binary cell 8 for its count, 9, 8 for its content, then 13 or 11"
unfoldable pub read_binary2 : Column → Bool → List ℕ → Result ℕ (Cell × List ℕ)
read_binary2 c flagged s = do
  (n, t) ← count_in c.len s
  (p, rest) ← first_bytes (content_bytes (shape c.kind) n) t
  x ← shows c flagged n p
  good (x, rest)

-- "In TABLEDATA and BINARY an empty cell is null: .. the count is 0, or a char cell shows none."
unfoldable pub read_binary : Column → List ℕ → Result ℕ (Cell × List ℕ)
read_binary c s = read_binary2 c false s >>= λ p. good (empty_is_null p.0, p.1)

-- ---- a cell is written

unfoldable pub count_bytes : Len → ℕ → List ℕ
count_bytes (Fixed n) m = []
count_bytes (Bounded n) m = to_digits 256 4 m
count_bytes Free m = to_digits 256 4 m

-- numbers of w bytes
unfoldable pub groups : ℕ → List ℕ → List ℕ
groups w [] = []
groups w (n ∷ ns) = to_digits 256 w n ++ groups w ns

-- numbers where n elements have room: "fixed char filled up with NUL; variable char with the shown length"
unfoldable pub bytes_of : Shape → ℕ → List ℕ → List ℕ
bytes_of Truths n ns = groups 1 ns
bytes_of Bits n ns = pack ns
bytes_of (Whole g v) n ns = groups (suc (last v)) ns
bytes_of Text n ns = ns ++ replicate (n - length ns) 0

unfoldable pub elements_bytes : Column → List ℤ → List ℕ
elements_bytes c es =
    count_bytes c.len (length es)
    ++ bytes_of (shape c.kind) (room_in c.len (length es)) (map (number (shape c.kind)) es)

-- "Null in BINARY2: flag, zero bytes, count 0."
unfoldable pub zeros : Column → List ℕ
zeros c = count_bytes c.len 0 ++ replicate (content_bytes (shape c.kind) (room_in c.len 0)) 0

unfoldable pub write_binary2 : Column → Cell → List ℕ
write_binary2 c null = zeros c
write_binary2 c (shown es) = elements_bytes c es

-- "count 0 for bounded and free, NULs for fixed char"
unfoldable pub can_be_empty : Shape → Len → Bool
can_be_empty k (Fixed n) = is_char k
can_be_empty k (Bounded n) = true
can_be_empty k Free = true

-- "Null in BINARY: the declared null, `?` for a scalar boolean, count 0 for bounded and free, NULs for fixed char; else 15."
unfoldable pub null_form : Column → Option ℤ → Result ℕ (List ℕ)
null_form c (Some z) = good (elements_bytes c (z ∷ []))
null_form c None = cond (can_be_empty (shape c.kind) c.len) (good (elements_bytes c [])) (bad 15)

-- "Empty, not null, goes only to BINARY2."
unfoldable pub write_binary : Column → Cell → Result ℕ (List ℕ)
write_binary c null = null_form c (null_element c)
write_binary c (shown []) = bad 14
write_binary c (shown (e ∷ es)) = good (elements_bytes c (e ∷ es))
