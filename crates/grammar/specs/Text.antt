-- TABLEDATA: which texts spell which rows.
use Rattle.std.specs.Prelude.{◌≤◌, suc, ℕ, Bool, List, [], ◌++◌, ◌∷◌, map, ◌≡◌, pos, ℤ, length}
use Rattle.grammar.specs.Shown.{Shows}
use Rattle.grammar.specs.Words.{BitLetters, Digit, Hexadigit, IntegerWord, Numeral, Spaced, Tag, Trimmed, TruthWord, White}
use Rattle.table.specs.All.{All}
use Rattle.table.specs.Bytes.{byte, bytes}
use Rattle.table.specs.Cell.{Cell, most_elements, null}
use Rattle.table.specs.Shape.{Bits, Shape, Text, Truths, Whole, Width, last, shape}
use Rattle.table.specs.declared.Column.{Column}
use Rattle.table.specs.declared.Len.{Len}
use Rattle.table.specs.declared.Len.TheVariants.{Bounded, Fixed, Free}

-- ---- characters

-- which bytes spell a character of a cell: "text is XML 1.0"; 000, 6: "the normal rules for encoding XML text"
pub data Character : List ℕ → ℕ → Type 0 where
  -- "In a cell `<` may only begin `</TD`; `>` is itself." `&` begins a reference, 13 ends a line.
  char-itself : {b : ℕ} → (b ≡ byte "<" → ⊥) → (b ≡ byte "&" → ⊥) → (b ≡ 13 → ⊥) → Character (b ∷ []) b
  -- XML 1.0, 2.11: "the two-character sequence #xD #xA" is "a single #xA character"
  char-line-end : Character (13 ∷ 10 ∷ []) 10
  -- "References: amp, lt, gt, quot, apos"
  char-amp : Character (bytes "&amp;") (byte "&")
  char-lt : Character (bytes "&lt;") (byte "<")
  char-gt : Character (bytes "&gt;") (byte ">")
  char-quot : Character (bytes "&quot;") (byte "\"")
  char-apos : Character (bytes "&apos;") (byte "'")
  -- "and numeric (`&#` or `&#x`) with 1 to 8 digits"
  char-decimal : {s : List ℕ} {n : ℕ} → Numeral Digit 10 s n → length s ≤ 8 → Character (bytes "&#" ++ (s ++ bytes ";")) n
  char-hexadecimal : {s : List ℕ} {n : ℕ} → Numeral Hexadigit 16 s n → length s ≤ 8 → Character (bytes "&#x" ++ (s ++ bytes ";")) n

-- "After expansion each character must be 9, 10, 13 or 32 to 127"
pub data IsText : ℕ → Type 0 where
  -- "9, 10, 13"
  text-tab : IsText 9
  text-line-feed : IsText 10
  text-return : IsText 13
  -- "or 32 to 127"
  text-other : {c : ℕ} → 32 ≤ c → c ≤ 127 → IsText c

-- bytes, and the characters that they spell one after another
pub data Characters : List ℕ → List ℕ → Type 0 where
  -- a cell may have none: `<TD></TD>`
  chars-end : Characters [] []
  -- 000, 5.1: "no separator should exist"
  chars-then : {b s : List ℕ} {c : ℕ} {cs : List ℕ} → Character b c → Characters s cs → Characters (b ++ s) (c ∷ cs)
  -- XML 1.0, 2.11: and so is "any #xD that is not followed by #xA"
  chars-return : {s cs : List ℕ} → ((t : List ℕ) → s ≡ 10 ∷ t → ⊥) → Characters s cs → Characters (13 ∷ s) (10 ∷ cs)

-- ---- elements

-- the elements that a cell's characters spell, by the kind of its column
pub data TextElements : Shape → List ℕ → List ℤ → Type 0 where
  -- "other cells lose white space at both ends and, except bit, are split at white space": booleans
  text-truths : {cs : List ℕ} {es : List ℤ} → Spaced TruthWord cs es → TextElements Truths cs es
  -- "except bit"
  text-bits : {cs : List ℕ} {es : List ℤ} → Trimmed BitLetters cs es → TextElements Bits cs es
  -- and integers
  text-whole : {g : Bool} {v : Width} {cs : List ℕ} {es : List ℤ} → Spaced (IntegerWord g (suc (last v))) cs es → TextElements (Whole g v) cs es
  -- "After expansion char cells are taken untrimmed"; 000, 5.1: "the white space is significant for "char""
  text-chars : {cs : List ℕ} → TextElements Text cs (map pos cs)

-- how many elements a cell with elements has; 12 is given elsewhere: "text cell with elements, but not n of them in a fixed column, or over
-- the bound in another; fixed char may be shorter, not longer"
pub data Many (k : Shape) : Len → ℕ → Type 0 where
  -- "n of them in a fixed column"
  many-fixed : {n : ℕ} → Many k (Fixed n) n
  -- "fixed char may be shorter, not longer"
  many-shorter : {n m : ℕ} → k ≡ Text → m ≤ n → Many k (Fixed n) m
  -- not "over the bound in another"
  many-bounded : {n m : ℕ} → m ≤ n → Many k (Bounded n) m
  -- "free `*` (4,096)"
  many-free : {m : ℕ} → m ≤ most_elements → Many k Free m

-- what a cell's characters show
pub data TextShows (c : Column) : List ℕ → Cell → Type 0 where
  -- "In TABLEDATA and BINARY an empty cell is null: no characters are left (after trimming, but for char)"
  shows-empty : {cs : List ℕ} → TextElements (shape c.kind) cs [] → TextShows c cs null
  -- "A cell shows null or a list of elements."
  shows-elements : {cs : List ℕ} {e : ℤ} {es : List ℤ} {x : Cell} → TextElements (shape c.kind) cs (e ∷ es)
      → Many (shape c.kind) c.len (length (e ∷ es)) → Shows c (e ∷ es) x → TextShows c cs x

-- ---- cells, rows, tables

-- a TD element and the characters between its tags
pub data Marked : List ℕ → List ℕ → Type 0 where
  -- "`<TD/>` is empty."
  marked_empty : {t : List ℕ} → Tag (bytes "<TD") (bytes "/>") t → Marked t []
  -- "In a cell `<` may only begin `</TD`"
  marked-text : {a b z cs : List ℕ} → Tag (bytes "<TD") (bytes ">") a → Characters b cs → Tag (bytes "</TD") (bytes ">") z → Marked (a ++ (b ++ z)) cs

-- a TD element and what it shows; 000, 5.1: "If the TD element is empty (`<TD/>` or `<TD></TD>`) the cell is considered to contain no data, i.e.
-- to be null."
pub data TextCell (c : Column) : List ℕ → Cell → Type 0 where
  -- "After expansion each character must be 9, 10, 13 or 32 to 127"
  text-cell : {t cs : List ℕ} {x : Cell} → Marked t cs → All IsText cs → TextShows c cs x → TextCell c t x

-- 000, 5.1: "The number of TD elements in each TR element must be equal to the number of FIELD elements declaring the table."
pub data TextCells : List Column → List ℕ → List Cell → Type 0 where
  -- no column is left, and no TD
  cells-end : TextCells [] [] []
  -- "only white space around .. their TDs": before each
  cells-then : {c : Column} {cs : List Column} {w t s : List ℕ} {x : Cell} {xs : List Cell} → White w → TextCell c t x → TextCells cs s xs
      → TextCells (c ∷ cs) (w ++ (t ++ s)) (x ∷ xs)

-- a TR element
pub data TextRow (cs : List Column) : List ℕ → List Cell → Type 0 where
  -- "only white space around .. their TDs": and behind the last
  text-row : {a b w z : List ℕ} {xs : List Cell} → Tag (bytes "<TR") (bytes ">") a → TextCells cs b xs → White w
      → Tag (bytes "</TR") (bytes ">") z → TextRow cs (a ++ (b ++ (w ++ z))) xs

-- "Input is TR elements with only white space around them and around their TDs."
pub data TextTable (cs : List Column) : List ℕ → List (List Cell) → Type 0 where
  -- "only white space around them": behind the last; "zero bytes are zero rows, accepted"
  table-end : {w : List ℕ} → White w → TextTable cs w []
  -- before each
  table-row : {w r s : List ℕ} {xs : List Cell} {rows : List (List Cell)} → White w → TextRow cs r xs → TextTable cs s rows
      → TextTable cs (w ++ (r ++ s)) (xs ∷ rows)
