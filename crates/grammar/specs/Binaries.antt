-- BINARY and BINARY2: which bytes are which rows.
use Rattle.std.specs.Prelude.{◌*◌, ◌+◌, ◌/◌, ◌<◌, ◌≤◌, suc, ℕ, Bool, false, true, List, [], ◌++◌, ◌∷◌, map, ◌≡◌, pos, ℤ, length, replicate}
use Rattle.grammar.specs.Shown.{Shows}
use Rattle.grammar.specs.Words.{Itself, Numeral, Stands, TruthLetter}
use Rattle.table.specs.All.{All}
use Rattle.table.specs.Cell.{Cell, most_elements, null, shown}
use Rattle.table.specs.Shape.{Bits, Shape, Text, Truths, Whole, Width, last, shape}
use Rattle.table.specs.declared.Column.{Column}
use Rattle.table.specs.declared.Len.{Len}
use Rattle.table.specs.declared.Len.TheVariants.{Bounded, Fixed, Free}

-- w bytes and the number that they spell
pub data BigEndian (w : ℕ) : List ℕ → ℕ → Type 0 where
  -- "Integers are big_endian"; 000, 5.3: "The order of the bytes in multi-byte primitives (e.g. integers ..) is Most Significant Byte first"
  big_endian : {b : List ℕ} {n : ℕ} → length b ≡ w → Numeral Itself 256 b n → BigEndian w b n

-- ---- bits

-- bits, eight to a byte
pub data Packed : List ℕ → List ℕ → Type 0 where
  -- no bits in no bytes
  packed-end : Packed [] []
  -- "first bit highest"; 000, 6: "a sequence of bits starting with the most significant bit"
  packed-then : {bits more s : List ℕ} {n : ℕ} → length bits ≡ 8 → All (λ (b : ℕ). b < 2) bits → Numeral Itself 2 bits n → Packed more s
      → Packed (bits ++ more) (n ∷ s)

-- n bits in bytes
pub data BitsIn (n : ℕ) : List ℕ → List ℕ → Type 0 where
  -- "`b` bits take (b+7)/8 bytes rounded down, first bit highest, padding 0."; 000, 6: "Padding bits shall be 0."
  bits_in : {bits s : List ℕ} (padding : ℕ) → length bits ≡ n → length s ≡ (n + 7) / 8 → Packed (bits ++ replicate padding 0) s
      → BitsIn n s bits

-- ---- elements

-- "Boolean is one byte: `T t 1` true, `F f 0` false, 0x00, 0x20, 0x3F unknown."
pub data TruthByte : List ℕ → ℤ → Type 0 where
  -- "`T t 1` true, `F f 0` false"
  byte-letter : {b : ℕ} {e : ℤ} → TruthLetter b e → TruthByte (b ∷ []) e
  -- "0x00, 0x20, 0x3F unknown"; 000, 6: "The null value is indicated by an ascii NULL [0x00], a space [0x20] or a question mark "?" [0x3f]."
  byte-nul : TruthByte (0x00 ∷ []) (pos 2)
  byte-space : TruthByte (0x20 ∷ []) (pos 2)
  byte-question : TruthByte (0x3F ∷ []) (pos 2)

-- an integer of w bytes
pub data IntegerBytes (signed : Bool) (w : ℕ) : List ℕ → ℤ → Type 0 where
  -- "Integers are big_endian, two's complement for the signed: 1, 2, 4, 8 bytes."
  integer-bytes : {b : List ℕ} {n : ℕ} {z : ℤ} → BigEndian w b n → Stands signed w n z → IntegerBytes signed w b z

-- n elements one after another: 000, 6: "In the case of an array of bytes .. the bytes are stored consecutively."
pub data Listed (Element : List ℕ → ℤ → Type 0) : ℕ → List ℕ → List ℤ → Type 0 where
  -- no element takes no byte
  listed-end : Listed Element 0 [] []
  -- "the bytes are stored consecutively"
  listed_then : {b s : List ℕ} {e : ℤ} {es : List ℤ} {n : ℕ} → Element b e → Listed Element n s es → Listed Element (suc n) (b ++ s) (e ∷ es)

-- n bytes of char: "A char cell shows the characters before the first NUL, or all if there is none."
pub data CharBytes : ℕ → List ℕ → List ℤ → Type 0 where
  -- "or all if there is none"
  bytes-end : CharBytes 0 [] []
  -- "after the first NUL nothing is looked at"; 000, 6: "characters after the first ASCII NULL are not defined"
  bytes-nul : {n : ℕ} {s : List ℕ} → length s ≡ n → CharBytes (suc n) (0 ∷ s) []
  -- "Char is one byte below 128"
  bytes-then : {n b : ℕ} {s : List ℕ} {es : List ℤ} → 0 < b → b < 128 → CharBytes n s es → CharBytes (suc n) (b ∷ s) (pos b ∷ es)

-- the content of a cell of n elements, by the kind of its column
pub data Content : Shape → ℕ → List ℕ → List ℤ → Type 0 where
  -- "Boolean is one byte"
  content-truths : {n : ℕ} {s : List ℕ} {es : List ℤ} → Listed TruthByte n s es → Content Truths n s es
  -- "`b` bits take (b+7)/8 bytes"
  content-bits : {n : ℕ} {s bits : List ℕ} → BitsIn n s bits → Content Bits n s (map pos bits)
  -- "1, 2, 4, 8 bytes"
  content-whole : {g : Bool} {v : Width} {n : ℕ} {s : List ℕ} {es : List ℤ} → Listed (IntegerBytes g (suc (last v))) n s es → Content (Whole g v) n s es
  -- "Char is one byte"
  content-chars : {n : ℕ} {s : List ℕ} {es : List ℤ} → CharBytes n s es → Content Text n s es

-- how many bytes a content of n elements has, whatever they hold
pub data Takes : Shape → ℕ → ℕ → Type 0 where
  -- "Boolean is one byte"
  takes-truths : {n : ℕ} → Takes Truths n n
  -- "`b` bits take (b+7)/8 bytes rounded down"
  takes-bits : {n : ℕ} → Takes Bits n ((n + 7) / 8)
  -- "1, 2, 4, 8 bytes"
  takes_whole : {g : Bool} {v : Width} {n : ℕ} → Takes (Whole g v) n (n * suc (last v))
  -- "Char is one byte"
  takes-chars : {n : ℕ} → Takes Text n n

-- ---- cells

-- what a cell begins with, and its number of elements; 9 is given for an "element count over the column's bound"
pub data Counted : Len → List ℕ → ℕ → Type 0 where
  -- 000, 5.3: "In the former case, the number of bytes is the same for each instance of the item, as specified by the arraysize attribute"
  counted-fixed : {n : ℕ} → Counted (Fixed n) [] n
  -- "Bounded and free columns begin with a 4-byte unsigned count of elements, not bytes."
  counted-bounded : {n m : ℕ} {b : List ℕ} → BigEndian 4 b m → m ≤ n → Counted (Bounded n) b m
  -- "free `*` (4,096)"
  counted-free : {m : ℕ} {b : List ℕ} → BigEndian 4 b m → m ≤ most_elements → Counted Free b m

-- a cell of BINARY2, under a null flag or not
pub data Binary2Cell (c : Column) : Bool → List ℕ → Cell → Type 0 where
  -- "The flagged cell is still there. Its count is read and checked; its content is skipped unread."
  cell-flagged : {a : List ℕ} (b : List ℕ) {n m : ℕ} → Counted c.len a n → Takes (shape c.kind) n m → length b ≡ m → Binary2Cell c true (a ++ b) null
  -- 000, 5.4: "an unset (0) bit indicates that its value is not null"; what it shows may be null all the same: "A scalar integer equal to its
  -- declared null is null in all three kinds of rows."
  cell-unflagged : {a b : List ℕ} {n : ℕ} {es : List ℤ} {x : Cell} → Counted c.len a n → Content (shape c.kind) n b es → Shows c es x
      → Binary2Cell c false (a ++ b) x

-- a cell of BINARY, which has no flags
pub data BinaryCell (c : Column) : List ℕ → Cell → Type 0 where
  -- "In TABLEDATA and BINARY an empty cell is null: .. the count is 0, or a char cell shows none. Only BINARY2 tells empty from null"
  binary-empty : {b : List ℕ} → Binary2Cell c false b (shown []) → BinaryCell c b null
  -- "A scalar integer equal to its declared null is null in all three kinds of rows." "A scalar boolean that is unknown is null."
  binary-null : {b : List ℕ} → Binary2Cell c false b null → BinaryCell c b null
  -- "A cell shows null or a list of elements."
  binary-shown : {b : List ℕ} {e : ℤ} {es : List ℤ} → Binary2Cell c false b (shown (e ∷ es)) → BinaryCell c b (shown (e ∷ es))

-- ---- rows and streams

-- a row of BINARY, a cell for each column: 000, 5.3: "a sequence of records with no header bytes, no alignment considerations, and no block
-- sizes"
pub data BinaryRow : List Column → List ℕ → List Cell → Type 0 where
  -- no column is left
  binary-end : BinaryRow [] [] []
  -- 000, 5: "the content of each row appears in the same order as the order of the FIELD definitions"
  binary-then : {c : Column} {cs : List Column} {b s : List ℕ} {x : Cell} {xs : List Cell} → BinaryCell c b x → BinaryRow cs s xs
      → BinaryRow (c ∷ cs) (b ++ s) (x ∷ xs)

-- a cell of BINARY2 for each column, under its flag
pub data FlaggedCells : List Column → List ℕ → List ℕ → List Cell → Type 0 where
  -- no column is left; 000, 5.4: "The null flags are stored as exactly one bit per table column"
  flagged-end : FlaggedCells [] [] [] []
  -- "1 for null"; 000, 5.4: "A set (1) bit indicates that the corresponding cell is null"
  flagged-null : {c : Column} {cs : List Column} {flags b s : List ℕ} {x : Cell} {xs : List Cell} → Binary2Cell c true b x
      → FlaggedCells cs flags s xs → FlaggedCells (c ∷ cs) (1 ∷ flags) (b ++ s) (x ∷ xs)
  -- 000, 5.4: "and an unset (0) bit indicates that its value is not null"
  flagged-shown : {c : Column} {cs : List Column} {flags b s : List ℕ} {x : Cell} {xs : List Cell} → Binary2Cell c false b x
      → FlaggedCells cs flags s xs → FlaggedCells (c ∷ cs) (0 ∷ flags) (b ++ s) (x ∷ xs)

-- a row of BINARY2
pub data Binary2Row (cs : List Column) : List ℕ → List Cell → Type 0 where
  -- "A BINARY2 row begins with (columns+7)/8 bytes, rounded down, of flags: first column in the highest bit, 1 for null, spare bits 0"
  binary2-row : {a b flags : List ℕ} {xs : List Cell} → BitsIn (length cs) a flags → FlaggedCells cs flags b xs → Binary2Row cs (a ++ b) xs

-- rows one after another
pub data RowStream (Row : List ℕ → List Cell → Type 0) : List ℕ → List (List Cell) → Type 0 where
  -- "zero bytes are zero rows, accepted"
  stream_end : RowStream Row [] []
  -- "The row lengths of an accepted stream, added in order, give the stream's length."
  stream-row : {b s : List ℕ} {xs : List Cell} {rows : List (List Cell)} → Row b xs → RowStream Row s rows → RowStream Row (b ++ s) (xs ∷ rows)
