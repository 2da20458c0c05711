-- Two nights compared, as calls of the face: what holds between the slices and the numbers that a caller has in hand. 02, #110.
use Rattle.std.specs.Prelude.{◌≤◌, ℕ, List, [], ◌∷◌, ◌≡◌, get_or, length, None}
use Rattle.compare.specs.Compare.{Compared}
use Rattle.demands.specs.Demands.{Valid}
use Rattle.demands.specs.TwoNights.{ComparisonEnded, InputRead, SameExactly, Swapped, Unseen}
use Rattle.sailmortar.specs.Face.{rows_of}
use Rattle.table.specs.Outcome.{most_input}
use Rattle.table.specs.declared.Column.{Column}
use Rattle.table.specs.declared.Rows.{Rows}

-- a comparison as the theorems speak of one: the eight numbers, and the buffer at exit
unfoldable pub comparison_of : List ℕ → List ℕ → Compared
comparison_of numbers exit =
    record {
      answer = record {
        number = get_or numbers 0 0;
        row = get_or numbers 1 0;
        column = get_or numbers 2 0;
        input = get_or numbers 3 0;
        differing = get_or numbers 4 0;
        first = get_or numbers 5 0;
        second = get_or numbers 6 0;
        places = get_or numbers 7 0;
      };
      buffer = exit;
    }

-- ---- one call

-- a number that names no kind of rows: 255 and zeros, and nothing is touched
abbrev pub NotCompared : List ℕ → List ℕ → List ℕ → Type 0
NotCompared entry numbers exit = (numbers ≡ 255 ∷ 0 ∷ 0 ∷ 0 ∷ 0 ∷ 0 ∷ 0 ∷ 0 ∷ []) × (exit ≡ entry)

pub record NotKinds (from kind : ℕ) (entry numbers exit : List ℕ) : Type 0 where
  pub no-first : rows_of from ≡ None → NotCompared entry numbers exit
  pub no_second : rows_of kind ≡ None → NotCompared entry numbers exit

-- "Give the exact number of cells that show differently in rows both have, the rows that each has beyond the other, and in a lent buffer the first
-- differing places": one answer and one buffer meet `ended` (theorem only-comparison)
pub record ComparedExactly (decls first second entry : List ℕ) (c : Compared) (source other : Rows) : Type 0 where
  pub ended : ComparisonEnded decls source first other second entry c
  -- and nothing differs exactly when both inputs show the same rows
  pub same-exactly : SameExactly decls source first other second c

-- ---- an input, and what it was converted to

-- "both must be the same night": an input that is valid for the target with this room, and whose lines there are within an input's size, differs in
-- nothing from what was written of it: eight zeros, and the buffer as it was
abbrev pub SameNight : List ℕ → List ℕ → List ℕ → List ℕ → List ℕ → List ℕ → Rows → Rows → Type 0
SameNight decls input out entry numbers exit from to =
    (v : Valid decls from to input (length out)) → length v.body ≤ most_input → (numbers ≡ 0 ∷ 0 ∷ 0 ∷ 0 ∷ 0 ∷ 0 ∷ 0 ∷ 0 ∷ []) × (exit ≡ entry)

-- ---- two calls

-- BINARY2 that has changed only in bytes that show nothing, compared with the same input in buffers that hold the same: every number of the answer and of
-- the buffer is the same
abbrev pub ComparedAlike : List ℕ → List ℕ → List ℕ → List ℕ → List ℕ → List ℕ → List ℕ → List ℕ → List ℕ → Type 0
ComparedAlike decls input changed one two numbers others exit left = Unseen decls input changed → two ≡ one → (others ≡ numbers) × (left ≡ exit)

-- two inputs compared, and then the other way round
pub record ComparedBothWays (decls first second one two : List ℕ) (c d : Compared) (source other : Rows) : Type 0 where
  -- whatever the two buffers hold and however long they are: as many cells differ, and "the rows that each has beyond the other" change sides
  pub counts : (cs : List Column) → InputRead decls cs source first → InputRead decls cs other second
      → (d.answer.differing ≡ c.answer.differing) × (d.answer.first ≡ c.answer.second) × (d.answer.second ≡ c.answer.first)
  -- in buffers that hold the same: all else is the same, the places and every number of the buffer too
  pub swapped : two ≡ one → Swapped decls source first other second c d
