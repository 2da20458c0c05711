-- What the functions that compare a row of each of two inputs promise: each case of an answer as the definitions have it.
use Rattle.std.specs.Prelude.{Err, None, Ok, Option, Result as Returned, Some, ◌≤◌, ℕ, Bool, false, not, true, List, [], ◌∷◌, ◌≡◌, ℤ, drop, length, take}
use Rattle.binary.specs.Binary.{flag_bit}
use Rattle.compare.specs.Compare.{same_cell, same_elements}
use Rattle.number.specs.Number.{to_digits}
use Rattle.row_comparing.specs.declared.CellPair.{CellPair}
use Rattle.row_comparing.specs.declared.RowPair.{RowPair}
use Rattle.rows.specs.Stream.{read_end}
use Rattle.table.specs.Cell.{Cell}
use Rattle.table.specs.Clauses.{shown_as}
use Rattle.table.specs.Outcome.{Refusal}
use Rattle.table.specs.Result.{Result, bad, good}
use Rattle.table.specs.declared.Found.{Found}
use Rattle.table.specs.declared.Reason.{Reason}
use Rattle.table.specs.declared.Rows.{Rows}

-- one of the two does not read
pub data OneUnread {E A B : Type 0} (d : Result E A) (e : Result E B) : Type 0 where
  unread-first : {x : E} → d ≡ bad x → OneUnread d e
  unread-second : {x : E} → e ≡ bad x → OneUnread d e

-- ---- a cell of each

-- a cell of each is read: where they end, and whether they show the same
pub record CellsRead (d : Result ℕ (Cell × List ℕ)) (s : List ℕ) (i : ℕ) (e : Result ℕ (Cell × List ℕ)) (t : List ℕ) (j : ℕ) (same : Bool) (next other : ℕ) : Type 0 where
  pub x : Cell
  pub y : Cell
  pub found : d ≡ good (x, drop next s)
  pub found-other : e ≡ good (y, drop other t)
  pub shows : same ≡ same_cell x y
  pub within : (i ≤ next) × (next ≤ length s)
  pub within-other : (j ≤ other) × (other ≤ length t)

-- what two readers found of a column, as one answer: read where both read
abbrev pub pair_of : List ℤ → Returned Found Reason → List ℤ → Returned Found Reason → Option CellPair
pair_of a (Ok f) b (Ok g) = Some (record { same = same_cell (shown_as a f.shown) (shown_as b g.shown); next = f.next; other = g.next })
pair_of a (Ok f) b (Err e) = None
pair_of a (Err e) b g = None

abbrev pub PairsCell : Result ℕ (Cell × List ℕ) → List ℕ → ℕ → Result ℕ (Cell × List ℕ) → List ℕ → ℕ → Option CellPair → Type 0
PairsCell d s i e t j (Some p) = CellsRead d s i e t j p.same p.next p.other
PairsCell d s i e t j None = OneUnread d e

-- ---- a row of each

-- which cells differ, a bit for each column
unfoldable pub differing_bits : List Cell → List Cell → List ℕ
differing_bits [] ys = []
differing_bits (x ∷ xs) [] = []
differing_bits (x ∷ xs) (y ∷ ys) = flag_bit (not (same_cell x y)) ∷ differing_bits xs ys

abbrev pub EndsRows : Rows → List ℕ → ℕ → Rows → List ℕ → ℕ → ℕ → Option RowPair → Type 0
EndsRows from s i kind t j differing (Some p) =
    (p.differing ≡ differing) × (read_end from (drop i s) ≡ good (drop p.next s)) × (read_end kind (drop j t) ≡ good (drop p.other t)) × (i ≤ p.next) × (p.next ≤ length s) × (j ≤ p.other) × (p.other ≤ length t)
EndsRows from s i kind t j differing None = OneUnread (read_end from (drop i s)) (read_end kind (drop j t))

-- a row of each is read: where they end, and the columns whose cells differ, as the digits of a word
pub record RowsRead (d : Result Refusal (List Cell × List ℕ)) (s : List ℕ) (i : ℕ) (e : Result Refusal (List Cell × List ℕ)) (t : List ℕ) (j count word next other : ℕ) : Type 0 where
  pub xs : List Cell
  pub ys : List Cell
  pub found : d ≡ good (xs, drop next s)
  pub found-other : e ≡ good (ys, drop other t)
  pub shows : to_digits 2 count word ≡ differing_bits xs ys
  pub within : (i ≤ next) × (next ≤ length s)
  pub within-other : (j ≤ other) × (other ≤ length t)

abbrev pub PairsRow : Result Refusal (List Cell × List ℕ) → List ℕ → ℕ → Result Refusal (List Cell × List ℕ) → List ℕ → ℕ → ℕ → Option RowPair → Type 0
PairsRow d s i e t j count (Some p) = RowsRead d s i e t j count p.differing p.next p.other
PairsRow d s i e t j count None = OneUnread d e
