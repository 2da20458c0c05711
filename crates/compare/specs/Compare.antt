-- Two inputs compared. 02, #110: "Two inputs under the same declarations, each of any row kind. Give the exact number of cells that show differently in
-- rows both have, the rows that each has beyond the other, and in a lent buffer the first differing places in row and column order".
use Rattle.std.specs.Prelude.{◌+◌, ◌-◌, ◌/◌, ℕ, Bool, ◌&&◌, cond, false, true, List, [], ◌++◌, ◌∷◌, ◌≡◌, ltb, ℤ, length}
use Rattle.compare.specs.declared.Comparison.{Comparison}
use Rattle.fields.specs.Front.{front}
use Rattle.rows.specs.Sequence.{finished, row, stopped}
use Rattle.rows.specs.Stream.{Table, read}
use Rattle.table.specs.Cell.{Cell, null, same_integer, shown}
use Rattle.table.specs.Outcome.{Refusal, answer_of, refused}
use Rattle.table.specs.Result.{Result, ◌>>=◌, bad, good, refused_as}
use Rattle.table.specs.declared.Answer.{Answer}
use Rattle.table.specs.declared.Rows.{Rows}

-- ---- what an input shows

-- the rows of a table from row r on, all of them; or the refusal of the first that does not read, as a conversion answers it
unfoldable pub rows_shown : ℕ → Table → Result Answer (List (List Cell))
rows_shown r finished = good []
rows_shown r (stopped e) = bad (answer_of (refused e r []))
rows_shown r (row xs more) = rows_shown (r + 1) more >>= λ rest. good (xs ∷ rest)

-- a refusal of the front of a call stands at row 0
unfoldable pub before_rows : Refusal → Answer
before_rows e = answer_of (refused e 0 [])

unfoldable pub shows : List ℕ → Rows → List ℕ → Result Answer (List (List Cell))
shows decls from input = do
  cs ← refused_as before_rows (front decls (length input))
  rows_shown 0 (read from cs input)

-- ---- "cells that show differently in rows both have"

unfoldable pub same_elements : List ℤ → List ℤ → Bool
same_elements [] [] = true
same_elements [] (f ∷ fs) = false
same_elements (e ∷ es) [] = false
same_elements (e ∷ es) (f ∷ fs) = same_integer e f && same_elements es fs

-- "Empty and null differ where the row kind tells them apart."
unfoldable pub same_cell : Cell → Cell → Bool
same_cell null null = true
same_cell null (shown fs) = false
same_cell (shown es) null = false
same_cell (shown es) (shown fs) = same_elements es fs

pub record Place : Type 0 where
  pub row : ℕ
  pub column : ℕ

-- column k of row r, where the two cells show differently
unfoldable pub cell_differs : ℕ → ℕ → Cell → Cell → List Place
cell_differs r k x y = cond (same_cell x y) [] (record { row = r; column = k } ∷ [])

-- the places of row r from column k on
unfoldable pub row_differs : ℕ → ℕ → List Cell → List Cell → List Place
row_differs r k [] ys = []
row_differs r k (x ∷ xs) [] = []
row_differs r k (x ∷ xs) (y ∷ ys) = cell_differs r k x y ++ row_differs r (k + 1) xs ys

-- "differing places in row and column order": those from row r on
unfoldable pub differences : ℕ → List (List Cell) → List (List Cell) → List Place
differences r [] second = []
differences r (xs ∷ first) [] = []
differences r (xs ∷ first) (ys ∷ second) = row_differs r 0 xs ys ++ differences (r + 1) first second

-- ---- the buffer: "the first differing places .., each as two 32-bit numbers, as many as fit, the rest untouched"

unfoldable pub placed : List Place → List ℕ → List ℕ
placed [] entry = entry
placed (p ∷ ps) [] = []
placed (p ∷ ps) (x ∷ []) = x ∷ []
placed (p ∷ ps) (x ∷ y ∷ entry) = p.row ∷ p.column ∷ placed ps entry

-- how many are filled: all, or as many as have two numbers of the buffer
unfoldable pub filled : ℕ → ℕ → ℕ
filled places size = cond (ltb (size / 2) places) (size / 2) places

-- ---- the call

-- "saying which input it was; then counts are 0"
unfoldable pub refused_in : ℕ → Answer → Comparison
refused_in input a =
    record { number = a.number; row = a.row; column = a.column; input = input; differing = 0; first = 0; second = 0; places = 0 }

-- "The first input's refusal is answered first, then the second's"
unfoldable pub both_show : List ℕ → Rows → List ℕ → Rows → List ℕ → Result Comparison (List (List Cell) × List (List Cell))
both_show decls from_First first from_Second second = do
  xs ← refused_as (refused_in 0) (shows decls from_First first)
  ys ← refused_as (refused_in 1) (shows decls from_Second second)
  good (xs, ys)

-- the counts: of the places that differ, and of the rows that each has
unfoldable pub counted : ℕ → ℕ → ℕ → ℕ → Comparison
counted places first second size = record {
  number = 0;
  row = 0;
  column = 0;
  input = 0;
  differing = places;
  first = first - second;
  second = second - first;
  places = filled places size;
}

-- the answer, and every number of the buffer at exit
pub record Compared : Type 0 where
  pub answer : Comparison
  pub buffer : List ℕ

-- "the buffer untouched" where one is refused
unfoldable pub compared_as : Result Comparison (List (List Cell) × List (List Cell)) → List ℕ → Compared
compared_as (bad a) entry = record { answer = a; buffer = entry }
compared_as (good (xs, ys)) entry =
    let ps = differences 0 xs ys in
    record { answer = counted (length ps) (length xs) (length ys) (length entry); buffer = placed ps entry }

-- from the text of the declarations, the kinds of rows and the two inputs, and the buffer at entry
unfoldable pub compare : List ℕ → Rows → List ℕ → Rows → List ℕ → List ℕ → Compared
compare decls from_First first from_Second second entry = compared_as (both_show decls from_First first from_Second second) entry

-- what every call of `compare` promises: the whole answer, and every number of the buffer that it was lent
pub record Compares (decls : List ℕ) (from_First : Rows) (first : List ℕ) (from_Second : Rows) (second entry : List ℕ) (a : Comparison) (exit : List ℕ) : Type 0 where
  pub answers : a ≡ (compare decls from_First first from_Second second entry).answer
  pub leaves : exit ≡ (compare decls from_First first from_Second second entry).buffer
