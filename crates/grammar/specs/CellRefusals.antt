-- What is wrong with a cell: for each refusal in reading it, when no cell stands at the front of what is left. Nothing here reads: a refusal is
-- given where what comes before it is spelled and what it is about is not.
use Rattle.std.specs.Prelude.{◌+◌, ◌/◌, ◌<◌, suc, ℕ, Bool, false, List, ◌++◌, ◌∷◌, ◌≡◌, ℤ, length}
use Rattle.grammar.specs.Binaries.{BigEndian, Binary2Cell, BinaryCell, Content, Counted, Packed, Takes}
use Rattle.grammar.specs.Text.{IsText, Many, Marked, TextCell, TextElements}
use Rattle.grammar.specs.Words.{FirstBad, IntegerWord, OutsideWord, White}
use Rattle.table.specs.All.{All}
use Rattle.table.specs.Cell.{Cell, bound}
use Rattle.table.specs.Shape.{Bits, Shape, Whole, Width, last, shape}
use Rattle.table.specs.declared.Column.{Column}
use Rattle.table.specs.declared.Len.{Len}
use Rattle.table.specs.declared.Len.TheVariants.{Bounded, Free}
use Rattle.table.specs.declared.Rows.{Rows}
use Rattle.table.specs.declared.Rows.TheVariants.{Binary, Binary2, TableData}

-- ---- a cell at the front of what is left

-- the cell, by its kind of rows and, in BINARY2, its flag; what it shows; and what is left behind it
pub data CellAt (c : Column) (flagged : Bool) : Rows → List ℕ → Cell → List ℕ → Type 0 where
  -- "only white space around .. their TDs": before each
  text_at : {w t rest : List ℕ} {x : Cell} → White w → TextCell c t x → CellAt c flagged TableData (w ++ (t ++ rest)) x rest
  -- 000, 5.3: "a sequence of records with no header bytes, no alignment considerations, and no block sizes"
  binary-at : {b rest : List ℕ} {x : Cell} → BinaryCell c b x → CellAt c flagged Binary (b ++ rest) x rest
  -- and so in BINARY2, under its flag
  binary2-at : {b rest : List ℕ} {x : Cell} → Binary2Cell c flagged b x → CellAt c flagged Binary2 (b ++ rest) x rest

-- ---- TABLEDATA: "a text cell 10, 11, 12"; 02, #104, of 11 and 18: "Both come before 12"

-- a TD element with these characters stands there, white space before it, and then the rest
pub record MarkedAt (s cs rest : List ℕ) : Type 0 where
  pub white : List ℕ
  pub taken : List ℕ
  pub is_white : White white
  pub whole : s ≡ white ++ (taken ++ rest)
  pub marked : Marked taken cs

-- 02, #104: "Split 11 for integer cells"
pub data OutsideFirst : Shape → List ℕ → Type 0 where
  -- "18 is for one that is but lies outside its kind's range", "the first bad element decides"
  first-outside : {g : Bool} {v : Width} {cs : List ℕ} → FirstBad (IntegerWord g (suc (last v))) (OutsideWord g (suc (last v))) cs → OutsideFirst (Whole g v) cs

pub data NoTextCell (c : Column) (s : List ℕ) : ℕ → Type 0 where
  -- 10: "TABLEDATA tags or references broken, wrong number of cells": from there no tags and characters can be made out
  no-element : ((cs rest : List ℕ) → MarkedAt s cs rest → ⊥) → NoTextCell c s 10
  -- 11: "a byte or text that is no value of its kind": there are characters, but one that no cell has, or an element that is none of its kind;
  -- 02, #104: "11 stays for text that isn't written as an integer"
  no-text-value : {cs rest : List ℕ} → MarkedAt s cs rest → ((es : List ℤ) → All IsText cs → TextElements (shape c.kind) cs es → ⊥)
      → (OutsideFirst (shape c.kind) cs → ⊥) → NoTextCell c s 11
  -- 18: "one that is but lies outside its kind's range"
  out_of_range : {cs rest : List ℕ} → MarkedAt s cs rest → OutsideFirst (shape c.kind) cs → NoTextCell c s 18
  -- 12: "text cell with elements, but not n of them in a fixed column, or over the bound in another"
  not-as-many : {cs rest : List ℕ} {e : ℤ} {es : List ℤ} → MarkedAt s cs rest → All IsText cs → TextElements (shape c.kind) cs (e ∷ es)
      → (Many (shape c.kind) c.len (suc (length es)) → ⊥) → NoTextCell c s 12

-- ---- BINARY and BINARY2: "a binary cell 8 for its count, 9, 8 for its content, then 13 or 11"

-- "Bounded and free columns begin with a 4-byte unsigned count"
pub data HasCount : Len → Type 0 where
  has-bounded : {n : ℕ} → HasCount (Bounded n)
  has-free : HasCount Free

-- n bits in bytes, and behind them "a padding bit that is 1"
pub data PaddingSet (n : ℕ) : List ℕ → Type 0 where
  padding-set : (bits padding : List ℕ) {s : List ℕ} → length bits ≡ n → length s ≡ (n + 7) / 8 → Packed (bits ++ padding) s
      → (All (λ (b : ℕ). b ≡ 0) padding → ⊥) → PaddingSet n s

pub data NoBinary2Cell (c : Column) (flagged : Bool) (s : List ℕ) : ℕ → Type 0 where
  -- 8: "BINARY or BINARY2 stream ends inside a row": what is left is a proper front of a count
  cut-count : HasCount c.len → length s < 4 → NoBinary2Cell c flagged s 8
  -- 9: "element count over the column's bound"
  over-bound : {b : List ℕ} (rest : List ℕ) {n : ℕ} → HasCount c.len → s ≡ b ++ rest → BigEndian 4 b n → bound c.len < n → NoBinary2Cell c flagged s 9
  -- 8: what is left behind the count is a proper front of a content, whatever it holds
  cut-content : {a : List ℕ} (b : List ℕ) {n m : ℕ} → s ≡ a ++ b → Counted c.len a n → Takes (shape c.kind) n m → length b < m → NoBinary2Cell c flagged s 8
  -- 13: "a padding bit that is 1"; under a flag "its content is skipped unread"
  padding-not-0 : {a b : List ℕ} (rest : List ℕ) {n : ℕ} → flagged ≡ false → s ≡ a ++ (b ++ rest) → Counted c.len a n → shape c.kind ≡ Bits → PaddingSet n b
      → NoBinary2Cell c flagged s 13
  -- 11: "a byte or text that is no value of its kind": the content is there, and has no elements of its kind; of bits any is one
  no-byte-value : {a : List ℕ} (b rest : List ℕ) {n m : ℕ} → flagged ≡ false → s ≡ a ++ (b ++ rest) → Counted c.len a n → Takes (shape c.kind) n m → length b ≡ m
      → (shape c.kind ≡ Bits → ⊥) → ((es : List ℤ) → Content (shape c.kind) n b es → ⊥) → NoBinary2Cell c flagged s 11

-- ---- of any kind of rows

-- BINARY has no flags
abbrev pub NoCell : Rows → Column → Bool → List ℕ → ℕ → Type 0
NoCell TableData c flagged s n = NoTextCell c s n
NoCell Binary c flagged s n = NoBinary2Cell c false s n
NoCell Binary2 c flagged s n = NoBinary2Cell c flagged s n

-- ---- the flags of a BINARY2 row: "flag bytes first (8, then 13, at column 0)"

pub data NoFlags (n : ℕ) (s : List ℕ) : ℕ → Type 0 where
  -- 8: "A BINARY2 row begins with (columns+7)/8 bytes, rounded down, of flags": what is left is a proper front of them
  cut-flags : length s < (n + 7) / 8 → NoFlags n s 8
  -- 13: "spare bits 0 (refusing a 1 is a plan rule)"
  spare-flag : {a : List ℕ} (rest : List ℕ) → s ≡ a ++ rest → PaddingSet n a → NoFlags n s 13
