-- What is valid, whole: which inputs of each kind spell which rows, and which cells have a form in the target.
use Rattle.std.specs.Prelude.{◌+◌, ℕ, List, [], ◌∷◌, ◌≡◌, pos, ℤ}
use Rattle.grammar.specs.Binaries.{Binary2Row, BinaryRow, RowStream}
use Rattle.grammar.specs.Shown.{StandsForNull}
use Rattle.grammar.specs.Text.{IsText, TextTable}
use Rattle.table.specs.All.{All}
use Rattle.table.specs.Cell.{Cell, Each, null, shown}
use Rattle.table.specs.Shape.{Text, shape}
use Rattle.table.specs.declared.Column.{Column}
use Rattle.table.specs.declared.Len.TheVariants.{Bounded, Free}
use Rattle.table.specs.declared.Rows.{Rows}
use Rattle.table.specs.declared.Rows.TheVariants.{Binary, Binary2, TableData}

-- rows of the three kinds: "Rows go from any of TABLEDATA, BINARY, BINARY2 to any of the three."
abbrev pub Spells : Rows → List Column → List ℕ → List (List Cell) → Type 0
Spells TableData cs s rows = TextTable cs s rows
Spells Binary cs s rows = RowStream (BinaryRow cs) s rows
Spells Binary2 cs s rows = RowStream (Binary2Row cs) s rows

-- ---- "01's writing refusals": 14, 15 and 16 are given for the cells that have no form in the target

-- a char that has an XML form
pub data XmlForm : ℤ → Type 0 where
  xml-form : {n : ℕ} → IsText n → XmlForm (pos n)

pub data HasForm (c : Column) : Rows → Cell → Type 0 where
  -- "Null is `<TD/>`."
  form-text-null : HasForm c TableData null
  -- "Booleans are `T`, `F`, `?`, integers shortest decimal"; 14 is "empty but not null, target has no form for it"
  form-text-elements : {e : ℤ} {es : List ℤ} → (shape c.kind ≡ Text → ⊥) → HasForm c TableData (shown (e ∷ es))
  -- "a code with no XML form is 16"
  form-text-chars : {e : ℤ} {es : List ℤ} → shape c.kind ≡ Text → All XmlForm (e ∷ es) → HasForm c TableData (shown (e ∷ es))
  -- "Empty, not null, goes only to BINARY2."
  form-binary-elements : {e : ℤ} {es : List ℤ} → HasForm c Binary (shown (e ∷ es))
  -- "Null in BINARY: the declared null, `?` for a scalar boolean, .. else 15"
  form-binary-null : {z : ℤ} → StandsForNull c z → HasForm c Binary null
  -- "count 0 for bounded and free"
  form-binary-bounded : {n : ℕ} → c.len ≡ Bounded n → HasForm c Binary null
  form-binary-free : c.len ≡ Free → HasForm c Binary null
  -- "NULs for fixed char"
  form-binary-chars : shape c.kind ≡ Text → HasForm c Binary null
  -- "Only BINARY2 tells empty from null": it has a form for every cell
  form-binary2 : {x : Cell} → HasForm c Binary2 x

-- each row has a form: a cell for each column, and each cell has one
abbrev pub HaveForms : List Column → Rows → List (List Cell) → Type 0
HaveForms cs to rows = All (Each (λ (c : Column) (x : Cell). HasForm c to x) cs) rows

-- a cell that has no form, and its number
pub data NoForm (c : Column) (to : Rows) : Cell → ℕ → Type 0 where
  -- 14: "empty but not null, target has no form for it"
  no-form-empty : (HasForm c to (shown []) → ⊥) → NoForm c to (shown []) 14
  -- 15: "null, target has no form for it"
  no-form-null : (HasForm c to null → ⊥) → NoForm c to null 15
  -- 16: "char with no XML form"
  no-form-chars : {e : ℤ} {es : List ℤ} → (HasForm c to (shown (e ∷ es)) → ⊥) → NoForm c to (shown (e ∷ es)) 16

-- "Writing: 14, 15, 16 at the first cell that has one": its number and its column; the first of these columns is column k
pub data NoForms (to : Rows) : List Column → ℕ → List Cell → ℕ → ℕ → Type 0 where
  at-form : {c : Column} {cs : List Column} {x : Cell} {xs : List Cell} {k n : ℕ} → NoForm c to x n → NoForms to (c ∷ cs) k (x ∷ xs) n k
  form-then : {c : Column} {cs : List Column} {x : Cell} {xs : List Cell} {k n j : ℕ} → HasForm c to x → NoForms to cs (k + 1) xs n j → NoForms to (c ∷ cs) k (x ∷ xs) n j
