-- What the theorems compare the grammar with: the table that a reader gives, and how a call ends: accepted, or refused with which number and where.
use Rattle.std.specs.Prelude.{◌+◌, ◌<◌, ◌≤◌, ℕ, List, [], ◌++◌, ◌∷◌, ◌≡◌, length}
use Rattle.demands.specs.Demands.{Converter, output}
use Rattle.demands.specs.Tables.{lines}
use Rattle.grammar.specs.Base64Text.{Base64Text}
use Rattle.grammar.specs.DeclarationRefusals.{NotDeclared}
use Rattle.grammar.specs.Declarations.{Declares}
use Rattle.grammar.specs.RowRefusals.{MoreAt, NoRow, RowAt, RowsAt, StopsAt}
use Rattle.grammar.specs.Valid.{HaveForms, NoForms, Spells}
use Rattle.rows.specs.Stream.{Table, write_row}
use Rattle.rows.specs.Sequence.{finished, row}
use Rattle.table.specs.Cell.{Cell}
use Rattle.table.specs.Outcome.{Call, accepted, ending}
use Rattle.table.specs.Result.{good}
use Rattle.table.specs.declared.Answer.{Answer}
use Rattle.table.specs.declared.Column.{Column}
use Rattle.table.specs.declared.Rows.{Rows}
use Rattle.table.specs.declared.Rows.TheVariants.{Binary, Binary2, TableData}

-- the table of these rows, read to its end
unfoldable pub table_of : List (List Cell) → Table
table_of [] = finished
table_of (xs ∷ rows) = row xs (table_of rows)

-- a call whose declarations and input are in the grammar, each within its size, whose rows have a form in the target, and whose lines
-- have room
pub record InGrammar (decls : List ℕ) (from to : Rows) (input : List ℕ) (room : ℕ) : Type 0 where
  pub columns : List Column
  pub declared : Declares decls columns
  -- "any row input .. up to 1,073,741,824 bytes"
  pub sized : length input ≤ 1073741824
  pub rows : List (List Cell)
  pub spelled : Spells from columns input rows
  pub forms : HaveForms columns to rows
  -- 17: "the row is longer than the room left"
  pub fits : (body : List ℕ) → lines to columns (table_of rows) ≡ good body → length body ≤ room

-- "With room enough and 01's sizes kept, any valid TABLEDATA goes to BINARY2 and back with every value and null the same.": bytes of
-- BINARY2 and a text of TABLEDATA that spell the same rows, and the two calls that write them
pub record BothWays (convert : Converter) (decls : List ℕ) (cs : List Column) (input : List ℕ) (rows : List (List Cell)) : Type 0 where
  pub binary : List ℕ
  pub text : List ℕ
  pub binary-spelled : Spells Binary2 cs binary rows
  pub text-spelled : Spells TableData cs text rows
  pub there : (out : List ℕ) → length binary ≤ length out → convert decls TableData Binary2 input out ≡ ending (accepted (length rows) binary) out
  pub back : length binary ≤ 1073741824 → (out : List ℕ) → length text ≤ length out
      → convert decls Binary2 TableData binary out ≡ ending (accepted (length rows) text) out

-- a decoding step whose input is in the grammar of base64, within its size, and whose bytes have room
pub record InBase64 (input : List ℕ) (room : ℕ) : Type 0 where
  -- "input of a base64 step up to 1,073,741,824 bytes"
  pub sized : length input ≤ 1073741824
  pub bytes : List ℕ
  pub spelled : Base64Text input bytes
  -- 17: "the base64 result is longer than the room left"
  pub fits : length bytes ≤ room

-- a decoding step that is refused: "Base64 refusals (6, 7, then 17)"
pub data NotDecoded (input : List ℕ) (room : ℕ) : ℕ → Type 0 where
  -- 6: "an input over its size"
  base64-too-long : 1073741824 < length input → NotDecoded input room 6
  -- 7: "base64 not valid"
  no-base64 : length input ≤ 1073741824 → ((b : List ℕ) → Base64Text input b → ⊥) → NotDecoded input room 7
  -- 17: "the base64 result is longer than the room left"
  no-room-for-bytes : {b : List ℕ} → length input ≤ 1073741824 → Base64Text input b → room < length b → NotDecoded input room 17

-- ---- calls that are refused

-- what is asked of the rows done before a refusal: under these columns, of an input within its size, each has a form in the target, and these are
-- their lines, for which there is room. That they are the input's is said beside this: `StopsAt`, `RowsAt`
pub record RowsDone (decls : List ℕ) (to : Rows) (input : List ℕ) (room : ℕ) (cs : List Column) (rows : List (List Cell)) (body : List ℕ) : Type 0 where
  pub declared : Declares decls cs
  pub sized : length input ≤ 1073741824
  pub forms : lines to cs (table_of rows) ≡ good body
  pub fits : length body ≤ room

-- a call that is refused: the number, the row and the column. "Each is given exactly then, and the earliest wins."
pub data Refuses (decls : List ℕ) (from to : Rows) (input : List ℕ) (room : ℕ) : ℕ → ℕ → ℕ → Type 0 where
  -- 1 to 6: "their refusal comes first, at row 0 with its place as the column"
  refuses-declarations : {n place : ℕ} → NotDeclared decls n place → Refuses decls from to input room n 0 place
  -- 6: "an input over its size", "at row 0, column 0"
  refuses-size : {cs : List Column} → Declares decls cs → 1073741824 < length input → Refuses decls from to input room 6 0 0
  -- 8 to 13: what stands behind these rows is no row
  refuses-reading : {cs : List Column} {rows : List (List Cell)} {body : List ℕ} {n k : ℕ} → RowsDone decls to input room cs rows body
      → StopsAt from cs input rows n k → Refuses decls from to input room n (length rows) k
  -- 14 to 16: the row that stands behind them has no form in the target
  refuses-writing : {cs : List Column} {rows : List (List Cell)} {body rest more : List ℕ} {xs : List Cell} {n k : ℕ} → RowsDone decls to input room cs rows body
      → RowsAt from cs input rows rest → RowAt cs from rest xs more → NoForms to cs 0 xs n k → Refuses decls from to input room n (length rows) k
  -- 17: "the row is longer than the room left", at column 0
  refuses-room : {cs : List Column} {rows : List (List Cell)} {body b rest more : List ℕ} {xs : List Cell} → RowsDone decls to input room cs rows body
      → RowsAt from cs input rows rest → RowAt cs from rest xs more → write_row to cs xs ≡ good b → room < length body + length b
      → Refuses decls from to input room 17 (length rows) 0

-- what a call answers: this number, row and column
abbrev pub Answers : Answer → ℕ → ℕ → ℕ → Type 0
Answers a n r k = (a.number ≡ n) × (a.row ≡ r) × (a.column ≡ k)

-- ---- a valid input that was cut

-- the number that a cut gives: 8, "BINARY or BINARY2 stream ends inside a row"; 10, "TABLEDATA tags or references broken"
abbrev pub cut_number : Rows → ℕ
cut_number TableData = 10
cut_number Binary = 8
cut_number Binary2 = 8

-- where the cut was
pub data CutFate (from : Rows) (cs : List Column) (rest : List ℕ) (done : ℕ) (c : Call) : Type 0 where
  -- between rows: it is accepted
  cut-between : (MoreAt rest from → ⊥) → c.answer.number ≡ 0 → CutFate from cs rest done c
  -- in a row: it is refused there, at the column in which what is left of the row is none
  cut_inside : {k : ℕ} → MoreAt rest from → NoRow from cs rest (cut_number from) k → Answers c.answer (cut_number from) done k → CutFate from cs rest done c

-- "a cut file at that hour has no one awake to mend it. I need the good rows and the spot where it went wrong.": what a call on the front of a valid
-- input gives
pub record CutFile (from to : Rows) (cs : List Column) (front : List ℕ) (rows : List (List Cell)) (c : Call) : Type 0 where
  -- the rows that are whole in the front, and no more are, and the others
  pub done : List (List Cell)
  pub left : List (List Cell)
  pub split : rows ≡ done ++ left
  pub rest : List ℕ
  pub whole : RowsAt from cs front done rest
  pub no_more : (xs : List Cell) (more : List ℕ) → RowAt cs from rest xs more → ⊥
  -- "Rows before the bad one stand whole in the output"
  pub rows-done : c.answer.rows ≡ length done
  pub spelled : Spells to cs (output c) done
  pub fate : CutFate from cs rest (length done) c
