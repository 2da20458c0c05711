-- Two nights compared, stated of any function that compares two inputs. 02, #110. A call is said by facts of the declarations and the inputs alone: what is
-- declared, what each input reads as, and whether two cells are the same.
use Rattle.std.specs.Prelude.{◌*◌, ◌+◌, ◌-◌, ◌/◌, ◌<◌, ◌≤◌, min, ℕ, true, List, [], ◌∷◌, ◌↔◌, ◌⊎◌, ◌≡◌, get_or, length, Some, slice_get}
use Rattle.compare.specs.Compare.{Compared, Place}
use Rattle.demands.specs.Demands.{Converter, Demand2, Valid, output}
use Rattle.demands.specs.Places.{shows_at}
use Rattle.demands.specs.Tables.{Ends, count, row_at, stop_at}
use Rattle.fields.specs.Fields.{declare}
use Rattle.rows.specs.Sequence.{in_order}
use Rattle.rows.specs.Stream.{Table, read}
use Rattle.table.specs.All.{All, AreBytes}
use Rattle.table.specs.Cell.{Cell}
use Rattle.table.specs.Outcome.{Refusal, most_input}
use Rattle.table.specs.Result.{bad, good}
use Rattle.table.specs.declared.Column.{Column}
use Rattle.table.specs.declared.Rows.{Rows}
use Rattle.table.specs.declared.Rows.TheVariants.{Binary2}

-- "Two inputs under the same declarations, each of any row kind": from the text of the declarations, the kind of rows and the bytes of the first input, those
-- of the second, and the buffer at entry to the answer and the buffer at exit
abbrev pub Comparer : Type 0
Comparer = List ℕ → Rows → List ℕ → Rows → List ℕ → List ℕ → Compared

-- ---- an input is refused, or it is read

-- the number, the row and the column of an input's refusal: each case is a fact of the declarations and the input
pub data InputRefused (decls : List ℕ) (from : Rows) (input : List ℕ) : ℕ → ℕ → ℕ → Type 0 where
  -- "at row 0 with its place as the column, and no row is read"
  declarations-refused : {e : Refusal} → declare decls ≡ bad e → InputRefused decls from input e.number 0 e.column
  -- "For each input size comes first: 6 stands at row 0, column 0"
  input-oversized : {cs : List Column} → declare decls ≡ good cs → most_input < length input → InputRefused decls from input 6 0 0
  -- "the row and column where it stopped": what stands there does not read as a row
  row-unread : {cs : List Column} {e : Refusal} {r : ℕ} → declare decls ≡ good cs → length input ≤ most_input → stop_at r (read from cs input) ≡ Some e
      → InputRefused decls from input e.number r e.column

-- an input that has no refusal
pub record InputRead (decls : List ℕ) (cs : List Column) (from : Rows) (input : List ℕ) : Type 0 where
  pub declared : declare decls ≡ good cs
  pub sized : length input ≤ most_input
  pub ends : Ends (read from cs input)

-- "saying which input it was; then counts are 0, the buffer untouched"
pub record NothingCompared (input number row column : ℕ) (entry : List ℕ) (c : Compared) : Type 0 where
  pub answered : c.answer ≡ record { number = number; row = row; column = column; input = input; differing = 0; first = 0; second = 0; places = 0 }
  pub untouched : c.buffer ≡ entry

-- ---- two tables that were read to their ends

-- "cells that show differently in rows both have": both have the row, and in that column of it one cell and another. A row that is read has a cell for each
-- column (law rows-long), so no cell of such a row is without its fellow
pub record Differ (t u : Table) (p : Place) : Type 0 where
  pub first-row : List Cell
  pub second-row : List Cell
  pub in-first : row_at p.row t ≡ Some first-row
  pub in-second : row_at p.row u ≡ Some second-row
  pub first_cell : Cell
  pub second-cell : Cell
  pub of-first : slice_get first-row p.column ≡ Some first_cell
  pub of-second : slice_get second-row p.column ≡ Some second-cell
  pub not_same : first_cell ≡ second-cell → ⊥

-- "in row and column order"
abbrev pub Before : Place → Place → Type 0
Before p q = (p.row < q.row) ⊎ ((p.row ≡ q.row) × (p.column < q.column))

-- each place before all that follow it, so that none stands there twice
abbrev pub Ascending : List Place → Type 0
Ascending [] = Unit {0}
Ascending (p ∷ ps) = All (Before p) ps × Ascending ps

abbrev pub Among : Place → List Place → Type 0
Among p [] = ⊥
Among p (q ∷ ps) = (p ≡ q) ⊎ Among p ps

pub record NightsCompared (t u : Table) (entry : List ℕ) (c : Compared) : Type 0 where
  -- the differing places: each of these differs, every one that does is among them, and they are in order
  pub differing-places : List Place
  pub each-differs : All (Differ t u) differing-places
  pub none-missing : (p : Place) → Differ t u p → Among p differing-places
  pub in_order : Ascending differing-places
  -- "Give the exact number of cells that show differently in rows both have, the rows that each has beyond the other, .. as many as fit"
  pub answered : c.answer
      ≡ record {
        number = 0;
        row = 0;
        column = 0;
        input = 0;
        differing = length differing-places;
        first = count t - count u;
        second = count u - count t;
        places = min (length differing-places) (length entry / 2);
      }
  -- "in a lent buffer the first differing places .., each as two 32-bit numbers"
  pub named : (k : ℕ) (p : Place) → k < c.answer.places → slice_get differing-places k ≡ Some p
      → (get_or c.buffer (2 * k) 0 ≡ p.row) × (get_or c.buffer (2 * k + 1) 0 ≡ p.column)
  -- "the rest untouched"
  pub untouched : (i : ℕ) → 2 * c.answer.places ≤ i → get_or c.buffer i 0 ≡ get_or entry i 0
  pub as_long : length c.buffer ≡ length entry

-- ---- the call

-- "The first input's refusal is answered first, then the second's"
pub data ComparisonEnded (decls : List ℕ) (from_First : Rows) (first : List ℕ) (from_Second : Rows) (second entry : List ℕ) (c : Compared) : Type 0 where
  first-refused : {n r k : ℕ} → InputRefused decls from_First first n r k → NothingCompared 0 n r k entry c
      → ComparisonEnded decls from_First first from_Second second entry c
  second-refused : {cs : List Column} {n r k : ℕ} → InputRead decls cs from_First first → InputRefused decls from_Second second n r k → NothingCompared 1 n r k entry c
      → ComparisonEnded decls from_First first from_Second second entry c
  both_read : {cs : List Column} → InputRead decls cs from_First first → InputRead decls cs from_Second second
      → NightsCompared (read from_First cs first) (read from_Second cs second) entry c → ComparisonEnded decls from_First first from_Second second entry c

-- ---- what two calls, or a comparison and a conversion, have to do with each other. A comparer that answers zeros to everything would meet most of these:
-- each is to be read beside `ended`, which one comparer meets (theorem only-comparison)

-- no cell shows differently, and neither has a row beyond the other
abbrev pub NothingDiffers : Compared → Type 0
NothingDiffers c = (c.answer.differing ≡ 0) × (c.answer.first ≡ 0) × (c.answer.second ≡ 0)

-- "the exact number": nothing differs exactly when both inputs show the same rows, all of them
abbrev pub SameExactly : List ℕ → Rows → List ℕ → Rows → List ℕ → Compared → Type 0
SameExactly decls from_First first from_Second second c =
    (cs : List Column) → InputRead decls cs from_First first → InputRead decls cs from_Second second
    → NothingDiffers c ↔ (in_order (read from_First cs first) ≡ in_order (read from_Second cs second))

-- a comparison as one has it from the other side: the same places, and "the rows that each has beyond the other" change sides
unfoldable pub turned : Compared → Compared
turned c = record {
  answer = record {
    number = c.answer.number;
    row = c.answer.row;
    column = c.answer.column;
    input = c.answer.input;
    differing = c.answer.differing;
    first = c.answer.second;
    second = c.answer.first;
    places = c.answer.places;
  };
  buffer = c.buffer;
}

-- inputs that are read, compared the other way round
abbrev pub Swapped : List ℕ → Rows → List ℕ → Rows → List ℕ → Compared → Compared → Type 0
Swapped decls from_First first from_Second second c d =
    (cs : List Column) → InputRead decls cs from_First first → InputRead decls cs from_Second second → d ≡ turned c

-- what a comparison gives in which nothing differs: eight zeros, and the buffer as it was
abbrev pub all_the_same : List ℕ → Compared
all_the_same entry = record { answer = record { number = 0; row = 0; column = 0; input = 0; differing = 0; first = 0; second = 0; places = 0 }; buffer = entry }

-- "renters ask for text, their programs ask for binary, and both must be the same night": an input that is valid for a target, compared with the lines that it
-- has there, where they are themselves within an input's size; c with the input first, d with the lines first
abbrev pub AsConverted : List ℕ → Rows → Rows → List ℕ → ℕ → List ℕ → Compared → Compared → Type 0
AsConverted decls from to input room entry c d =
    (v : Valid decls from to input room) → AreBytes input → length v.body ≤ most_input → (c ≡ all_the_same entry) × (d ≡ all_the_same entry)

-- "has changed only in bytes that show nothing (under a null flag, counts excepted, or after the first NUL of a text)"
pub record Unseen (decls s t : List ℕ) : Type 0 where
  pub columns : List Column
  pub declared : declare decls ≡ good columns
  pub same-long : length t ≡ length s
  pub where-it-shows : (i : ℕ) → i < length s → shows_at columns s i ≡ true → get_or t i 0 ≡ get_or s i 0

-- ---- of any comparer

pub record ComparesNights (compare : Comparer) : Type 0 where
  pub ended : (decls : List ℕ) (from_First : Rows) (first : List ℕ) (from_Second : Rows) (second entry : List ℕ)
      → ComparisonEnded decls from_First first from_Second second entry (compare decls from_First first from_Second second entry)
  pub same-exactly : (decls : List ℕ) (from_First : Rows) (first : List ℕ) (from_Second : Rows) (second entry : List ℕ)
      → SameExactly decls from_First first from_Second second (compare decls from_First first from_Second second entry)
  pub swapped : (decls : List ℕ) (from_First : Rows) (first : List ℕ) (from_Second : Rows) (second entry : List ℕ)
      → Swapped decls from_First first from_Second second (compare decls from_First first from_Second second entry) (compare decls from_Second second from_First first entry)
  pub as-converted : (convert : Converter) → Demand2 convert → (decls : List ℕ) (from to : Rows) (input out entry : List ℕ)
      → AsConverted decls from to input (length out) entry (compare decls from input to (output (convert decls from to input out)) entry)
      (compare decls to (output (convert decls from to input out)) from input entry)
  -- a BINARY2 input that changed only there: all eight numbers and every number of the buffer are the same, whichever input it is
  pub unseen-first : (decls s t : List ℕ) (from : Rows) (other entry : List ℕ) → Unseen decls s t
      → compare decls Binary2 t from other entry ≡ compare decls Binary2 s from other entry
  pub unseen-second : (decls s t : List ℕ) (from : Rows) (other entry : List ℕ) → Unseen decls s t
      → compare decls from other Binary2 t entry ≡ compare decls from other Binary2 s entry
