-- What is wrong with a row, and with a stream: the first cell, from the left, of the first row that has one. Nothing here reads. "Rows: .. Reading goes
-- by cells from left to right", "A broken row start is column 0, a missing cell its own column, a broken row end the column count."
use Rattle.std.specs.Prelude.{◌+◌, ℕ, Bool, false, true, List, [], ◌++◌, ◌∷◌, ◌≡◌, length, replicate}
use Rattle.grammar.specs.Binaries.{Binary2Row, BinaryRow, BitsIn}
use Rattle.grammar.specs.CellRefusals.{CellAt, NoCell, NoFlags}
use Rattle.grammar.specs.Text.{TextRow}
use Rattle.grammar.specs.Words.{Tag, White}
use Rattle.table.specs.Bytes.{bytes}
use Rattle.table.specs.Cell.{Cell}
use Rattle.table.specs.declared.Column.{Column}
use Rattle.table.specs.declared.Rows.{Rows}
use Rattle.table.specs.declared.Rows.TheVariants.{Binary, Binary2, TableData}

-- ---- what begins and what ends a row

-- a tag stands there, white space before it; then the rest
pub record TagAt (opening s rest : List ℕ) : Type 0 where
  pub white : List ℕ
  pub taken : List ℕ
  pub is_white : White white
  pub whole : s ≡ white ++ (taken ++ rest)
  pub tag : Tag opening (bytes ">") taken

-- what begins a row of so many columns: their flags, and the rest. Only BINARY2 has flags: elsewhere all are 0
pub data StartAt (n : ℕ) : Rows → List ℕ → List ℕ → List ℕ → Type 0 where
  text-start : {s rest : List ℕ} → TagAt (bytes "<TR") s rest → StartAt n TableData s (replicate n 0) rest
  binary-start : {s : List ℕ} → StartAt n Binary s (replicate n 0) s
  binary2-start : {a flags rest : List ℕ} → BitsIn n a flags → StartAt n Binary2 (a ++ rest) flags rest

-- no row begins there, and the number
pub data NoStart (n : ℕ) (s : List ℕ) : Rows → ℕ → Type 0 where
  -- 10: "TABLEDATA tags or references broken"
  no-text-start : ((rest : List ℕ) → TagAt (bytes "<TR") s rest → ⊥) → NoStart n s TableData 10
  -- "flag bytes first (8, then 13, at column 0)"
  no-binary2-start : {m : ℕ} → NoFlags n s m → NoStart n s Binary2 m

-- no row ends there: 10
pub data NoEnd (s : List ℕ) : Rows → Type 0 where
  no-text-end : ((rest : List ℕ) → TagAt (bytes "</TR") s rest → ⊥) → NoEnd s TableData

-- ---- the cells of a row

-- "1 for null"
pub data Flag : ℕ → Bool → Type 0 where
  flag-set : Flag 1 true
  flag-unset : Flag 0 false

-- a cell for each column, under its flag; then the rest
pub data CellsAt (from : Rows) : List Column → List ℕ → List ℕ → List ℕ → Type 0 where
  cells-none : {s : List ℕ} → CellsAt from [] [] s s
  cells-next : {c : Column} {cs : List Column} {b : ℕ} {f : Bool} {flags s t rest : List ℕ} {x : Cell} → Flag b f → CellAt c f from s x t → CellsAt from cs flags t rest
      → CellsAt from (c ∷ cs) (b ∷ flags) s rest

-- the first cell from the left that is none: its number, and its column; the first of these columns is column k
pub data NoCells (from : Rows) : List Column → List ℕ → ℕ → List ℕ → ℕ → ℕ → Type 0 where
  at-cell : {c : Column} {cs : List Column} {b k n : ℕ} {f : Bool} {flags s : List ℕ} → Flag b f → NoCell from c f s n → NoCells from (c ∷ cs) (b ∷ flags) k s n k
  cell-then : {c : Column} {cs : List Column} {b k n j : ℕ} {f : Bool} {flags s t : List ℕ} {x : Cell} → Flag b f → CellAt c f from s x t
      → NoCells from cs flags (k + 1) t n j → NoCells from (c ∷ cs) (b ∷ flags) k s n j

-- ---- a row

-- a row stands there, in TABLEDATA white space before it; then the rest
pub data RowAt (cs : List Column) : Rows → List ℕ → List Cell → List ℕ → Type 0 where
  text-row-at : {w r rest : List ℕ} {xs : List Cell} → White w → TextRow cs r xs → RowAt cs TableData (w ++ (r ++ rest)) xs rest
  binary-row-at : {b rest : List ℕ} {xs : List Cell} → BinaryRow cs b xs → RowAt cs Binary (b ++ rest) xs rest
  binary2-row-at : {b rest : List ℕ} {xs : List Cell} → Binary2Row cs b xs → RowAt cs Binary2 (b ++ rest) xs rest

-- no row stands there: the number, and the column
pub data NoRow (from : Rows) (cs : List Column) (s : List ℕ) : ℕ → ℕ → Type 0 where
  -- "A broken row start is column 0"
  no_start : {n : ℕ} → NoStart (length cs) s from n → NoRow from cs s n 0
  -- "a missing cell its own column"
  no_cells : {n k : ℕ} {flags t : List ℕ} → StartAt (length cs) from s flags t → NoCells from cs flags 0 t n k → NoRow from cs s n k
  -- "a broken row end the column count"
  no_end : {flags t u : List ℕ} → StartAt (length cs) from s flags t → CellsAt from cs flags t u → NoEnd u from → NoRow from cs s 10 (length cs)

-- ---- a stream

-- a row should stand there: it is not the end
pub data MoreAt (s : List ℕ) : Rows → Type 0 where
  -- "only white space around them"
  text-more : (White s → ⊥) → MoreAt s TableData
  -- "zero bytes are zero rows, accepted"
  binary-more : (s ≡ [] → ⊥) → MoreAt s Binary
  binary2-more : (s ≡ [] → ⊥) → MoreAt s Binary2

-- these rows, and then the rest
pub data RowsAt (from : Rows) (cs : List Column) : List ℕ → List (List Cell) → List ℕ → Type 0 where
  rows_none : {s : List ℕ} → RowsAt from cs s [] s
  rows_next : {s t rest : List ℕ} {xs : List Cell} {rows : List (List Cell)} → RowAt cs from s xs t → RowsAt from cs t rows rest → RowsAt from cs s (xs ∷ rows) rest

-- a stream that stops: the rows before, and behind them what is no row, with the number and the column
pub record StopsAt (from : Rows) (cs : List Column) (s : List ℕ) (rows : List (List Cell)) (n k : ℕ) : Type 0 where
  pub rest : List ℕ
  pub before : RowsAt from cs s rows rest
  pub more : MoreAt rest from
  pub none : NoRow from cs rest n k
