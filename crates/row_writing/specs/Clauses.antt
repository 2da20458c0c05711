-- What the functions that write rows promise: the bytes of a cell, of a row, and the cells of a row as the scratch holds them.
use Rattle.std.specs.Prelude.{Result as Returned, Ok, Err, Option, None, Some, ◌+◌, ◌<◌, ◌≤◌, ℕ, Bool, false, List, [], ◌++◌, ◌∷◌, ◌≡◌, negsuc, pos, ℤ, drop, length, take}
use Rattle.std.proofs.lemmas.List.Edits.{sets}
use Rattle.binary.specs.Binary.{pack, write_binary, write_binary2}
use Rattle.table.specs.ColumnList.{listed}
use Rattle.number.specs.Number.{to_digits}
use Rattle.row_reading.specs.Clauses.{flags_in}
use Rattle.row_writing.specs.declared.Writing.{Writing}
use Rattle.rows.specs.Stream.{flag, flags_left, read_cell, write_end}
use Rattle.table.specs.Bytes.{bytes}
use Rattle.table.specs.Cell.{Cell, bound, null, shown}
use Rattle.table.specs.Clauses.{form_bytes}
use Rattle.table.specs.Reasons.{number_of}
use Rattle.table.specs.declared.Reason.{Reason}
use Rattle.table.specs.Result.{Result, bad, good}
use Rattle.table.specs.declared.Column.{Column}
use Rattle.table.specs.declared.Columns.{Columns}
use Rattle.table.specs.declared.Rows.{Rows}
use Rattle.table.specs.declared.Rows.TheVariants.{Binary, Binary2, TableData}
use Rattle.tabledata.specs.TableData.{open-TR, text_bytes}

-- what is written before a row's cells, from the word of its null cells
unfoldable pub start_bytes : Rows → ℕ → ℕ → List ℕ
start_bytes TableData count nulls = open-TR ++ bytes ">"
start_bytes Binary count nulls = []
start_bytes Binary2 count nulls = pack (to_digits 2 count nulls)

-- no cell takes more bytes than these
abbrev pub most_cell_bytes : ℕ
most_cell_bytes = 100000

-- so much and no more, and no refusal has the number 0
abbrev pub SizeWithin : Returned ℕ Reason → Type 0
SizeWithin (Ok n) = n ≤ most_cell_bytes
SizeWithin (Err e) = 0 < number_of e

-- ---- the cells of a row, held in the scratch

-- a cell as it is held: -1 for null; else how many elements it shows, and then these
unfoldable pub held_cell : Cell → List ℤ
held_cell null = negsuc 0 ∷ []
held_cell (shown es) = pos (length es) ∷ es

-- the first of the cells that are held, and those behind it
unfoldable pub held_next : Column → Bool → List ℤ → Result ℕ (Cell × List ℤ)
held_next c flagged [] = bad 0
held_next c flagged (negsuc k ∷ l) = good (null, l)
held_next c flagged (pos n ∷ l) = good (shown (take n l), drop n l)

-- a cell within its column's bound
abbrev pub FewIn : Column → Cell → Type 0
FewIn c null = Unit {0}
FewIn c (shown es) = length es ≤ bound c.len

-- ---- a row while it is written

-- what the code writes for a cell, whatever its elements are: its form, where it has one
unfoldable pub cell_bytes : Rows → Column → Cell → List ℕ
cell_bytes TableData c x = text_bytes c x
cell_bytes Binary c x = form_bytes (write_binary c x)
cell_bytes Binary2 c x = write_binary2 c x

-- what a cell that was taken from the front of something is written as, and what follows it there
unfoldable pub cell_form : {A : Type 0} → Rows → Column → Result ℕ (Cell × List A) → List ℕ
cell_form to c (good p) = cell_bytes to c p.0
cell_form to c (bad n) = []

unfoldable pub rest_of : {A : Type 0} → Result ℕ (Cell × List A) → List A
rest_of (good p) = p.1
rest_of (bad n) = []

-- the written form of a row's cells, as `next` takes them from the front, one for each column
unfoldable pub row_form : {A : Type 0} → (Column → Bool → List A → Result ℕ (Cell × List A)) → Rows → List Column → List Bool → List A → List ℕ
row_form next to [] fs s = []
row_form next to (c ∷ cs) fs s = cell_form to c (next c (flag fs) s) ++ row_form next to cs (flags_left fs) (rest_of (next c (flag fs) s))

-- the whole row: what begins it, its cells, what ends it
unfoldable pub row_bytes : Rows → ℕ → ℕ → List ℕ → List ℕ
row_bytes to count nulls cells = start_bytes to count nulls ++ (cells ++ write_end to)

-- a cell was taken by `next` at a place of s and written
pub record Rewritten {A : Type 0} (next : Column → Bool → List A → Result ℕ (Cell × List A)) (to : Rows) (c : Column) (flagged : Bool) (s : List A) (w : Writing) (old new : List ℕ)
    (r : Writing) : Type 0 where
  pub inside : r.at ≤ length s
  pub rest : rest_of (next c flagged (drop w.at s)) ≡ drop r.at s
  pub place : r.to ≡ w.to + length (cell_form to c (next c flagged (drop w.at s)))
  pub now-is : new ≡ sets old w.to (cell_form to c (next c flagged (drop w.at s)))

-- the cells of a row, read again from the place where they begin
abbrev pub read_form : Rows → Rows → Columns → ℕ → List ℕ → List ℕ
read_form from to cols flags s = row_form (read_cell from) to (listed cols) (flags_in from cols.count flags) s

-- the cells of a row, as the scratch holds them
abbrev pub held_form : Rows → Columns → List ℤ → List ℕ
held_form to cols l = row_form held_next to (listed cols) [] l

-- the cells of a row, from the scratch where that holds them
abbrev pub put_form : Rows → Rows → Columns → ℕ → List ℕ → List ℤ → Option ℕ → List ℕ
put_form from to cols flags s l (Some n) = held_form to cols l
put_form from to cols flags s l None = read_form from to cols flags s

-- the counts that are held are within the columns' bounds and within the scratch
abbrev pub HeldAt : Column → List ℤ → Type 0
HeldAt c [] = ⊥
HeldAt c (negsuc k ∷ l) = Unit {0}
HeldAt c (pos n ∷ l) = (n ≤ bound c.len) × (n ≤ length l)

abbrev pub HeldWithin : List Column → List ℤ → Type 0
HeldWithin [] l = Unit {0}
HeldWithin (c ∷ cs) l = HeldAt c l × HeldWithin cs (rest_of (held_next c false l))

abbrev pub HeldIs : List ℤ → ℕ → Option ℕ → Type 0
HeldIs l place None = (k : ℕ) × (drop place l ≡ negsuc k ∷ drop (place + 1) l)
HeldIs l place (Some n) = drop place l ≡ pos n ∷ drop (place + 1) l

abbrev pub HeldReady : List Column → List ℤ → Option ℕ → Type 0
HeldReady cs l (Some n) = HeldWithin cs l
HeldReady cs l None = Unit {0}
