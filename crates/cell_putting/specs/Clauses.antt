-- What the functions that put a cell promise: one element, and what stands around elements.
use Rattle.std.specs.Prelude.{◌+◌, ◌-◌, ℕ, Bool, cond, false, true, List, [], ◌∷◌, ◌≡◌, ℤ, length, Option, Some, None}
use Rattle.binary.specs.Binary.{count_bytes, elements_bytes}
use Rattle.cell_putting.specs.declared.Scalar.{Scalar}
use Rattle.moving.specs.Cells.{NeverNull}
use Rattle.moving.specs.Contents.{content_form}
use Rattle.moving.specs.Puts.{Puts}
use Rattle.moving.specs.declared.Moved.{Moved}
use Rattle.number.specs.Clauses.{is_signed, width_of}
use Rattle.table.specs.Cell.{is_char, is_scalar, room_in}
use Rattle.table.specs.Shape.{Shape, Truths, Whole, shape}
use Rattle.table.specs.declared.Column.{Column}
use Rattle.table.specs.declared.Rows.{Rows}
use Rattle.table.specs.declared.Rows.TheVariants.{Binary, Binary2, TableData}
use Rattle.tabledata.specs.TableData.{element_bytes, tagged}

-- what a leaf may store in one go
abbrev pub most_room : ℕ
most_room = 64

-- ---- one element that stands for no null

-- the bytes of a scalar's cell
unfoldable pub one_form : Rows → Shape → ℤ → List ℕ
one_form TableData k z = tagged (element_bytes k (z ∷ []))
one_form Binary k z = content_form k (z ∷ [])
one_form Binary2 k z = content_form k (z ∷ [])

-- rows that have tags
unfoldable pub is_text : Rows → Bool
is_text TableData = true
is_text Binary = false
is_text Binary2 = false

-- ---- which columns may have an element that stands for null

abbrev pub ScalarIs : Column → Option Scalar → Type 0
ScalarIs c (Some (Scalar.Integer kind)) = (is_scalar c ≡ true) × (shape c.kind ≡ Whole (is_signed kind) (width_of kind))
ScalarIs c (Some Scalar.Truth) = (is_scalar c ≡ true) × (shape c.kind ≡ Truths)
ScalarIs c None = NeverNull c

-- ---- elements of BINARY and BINARY2

-- "fixed char filled up with NUL": how many stand behind m characters
unfoldable pub fill_size : Column → ℕ → ℕ
fill_size c m = cond (is_char (shape c.kind)) (room_in c.len m - m) 0

pub record ElementsPut (c : Column) (es : List ℤ) (next : ℕ) (old : List ℕ) (o : ℕ) (new : List ℕ) (next' e : ℕ) (null' : Bool) : Type 0 where
  pub puts : Puts old o (elements_bytes c es) new e
  pub same_next : next' ≡ next
  pub not_null : null' ≡ false

abbrev pub PutsElements : Column → List ℤ → ℕ → List ℕ → ℕ → List ℕ → Option Moved → Type 0
PutsElements c es next old o new (Some r) = ElementsPut c es next old o new r.next r.end r.null
PutsElements c es next old o new None = Puts old o [] new o

-- elements whose bytes were put behind room for their count are a cell
pub record FillsUp (c : Column) (count next : ℕ) (entry : List ℕ) (o end : ℕ) (exit : List ℕ) (r : Option Moved) : Type 0 where
  pub filled : (old : List ℕ) (es : List ℤ) → count ≡ length es → Puts old (o + length (count_bytes c.len count)) (content_form (shape c.kind) es) entry end
      → PutsElements c es next old o exit r
