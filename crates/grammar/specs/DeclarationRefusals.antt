-- What is wrong with declarations: for each of their refusals, when it is given and at which place. Nothing here reads. "Declarations: elements
-- from left to right; in each one shape (through its end), 2, 3, 4, then 5 for a 65th; no column at the end."
use Rattle.std.specs.Prelude.{◌<◌, ◌≤◌, suc, ℕ, List, ◌++◌, ◌≡◌, length, Option, Some, None, ℤ}
use Rattle.grammar.specs.Declarations.{Arraysize, Datatype, FieldOf, FieldText, NullText, ValueOf}
use Rattle.grammar.specs.Words.{White}
use Rattle.table.specs.Bytes.{bytes}
use Rattle.table.specs.Cell.{column_of, is_scalar}
use Rattle.table.specs.Shape.{shape}
use Rattle.table.specs.declared.Column.{Column}
use Rattle.table.specs.declared.Kind.{Kind}
use Rattle.table.specs.declared.Len.{Len}

-- ---- an element

-- a FIELD of the right shape stands there, white space before it, with this datatype, this arraysize and this null as written; then the rest
pub record FieldAt (s datatype : List ℕ) (arraysize null : Option (List ℕ)) (rest : List ℕ) : Type 0 where
  pub white : List ℕ
  pub taken : List ℕ
  pub attributes : List (List ℕ × List ℕ)
  pub is_white : White white
  pub whole : s ≡ white ++ (taken ++ rest)
  pub field : FieldText taken attributes null
  -- "`datatype` is needed; `datatype`, `arraysize`, .. may stand once"
  pub has-datatype : ValueOf (bytes "datatype") attributes (Some datatype)
  pub has-arraysize : ValueOf (bytes "arraysize") attributes arraysize

-- no column is declared there: something stands there, and it is
pub data NoColumn (s : List ℕ) : ℕ → Type 0 where
  -- 1: "declarations not of the shape above"
  no-shape : (White s → ⊥) → ((d : List ℕ) (a o : Option (List ℕ)) (rest : List ℕ) → FieldAt s d a o rest → ⊥) → NoColumn s 1
  -- 2: "datatype not carried"
  no_kind : {d : List ℕ} {a o : Option (List ℕ)} {rest : List ℕ} → FieldAt s d a o rest → ((k : Kind) → Datatype d k → ⊥) → NoColumn s 2
  -- 3: "arraysize not of the three shapes"
  no_length : {d : List ℕ} {a o : Option (List ℕ)} {rest : List ℕ} {k : Kind} → FieldAt s d a o rest → Datatype d k → ((l : Len) → Arraysize a l → ⊥)
      → NoColumn s 3
  -- 4: "null value not a value of its column"
  no-null : {d : List ℕ} {a o : Option (List ℕ)} {rest : List ℕ} {k : Kind} {l : Len} → FieldAt s d a o rest → Datatype d k → Arraysize a l
      → ((n : Option ℤ) → NullText (shape k) (is_scalar (column_of k l None)) o n → ⊥) → NoColumn s 4

-- a column is declared there, white space before it; then the rest
pub record ColumnAt (s : List ℕ) (c : Column) (rest : List ℕ) : Type 0 where
  pub white : List ℕ
  pub taken : List ℕ
  pub is_white : White white
  pub whole : s ≡ white ++ (taken ++ rest)
  pub field : FieldOf taken c

-- ---- the whole text

-- behind k columns: the refusal's number and its place, "the number of whole FIELDs before"
pub data NoColumns : ℕ → List ℕ → ℕ → ℕ → Type 0 where
  -- 5: "no column": "no column at the end"
  no-column : {s : List ℕ} → White s → NoColumns 0 s 5 0
  -- 1 to 4, the 65th element's too
  at-column : {k n : ℕ} {s : List ℕ} → k ≤ 64 → NoColumn s n → NoColumns k s n k
  -- 5: "or a 65th"
  one-too-many : {s rest : List ℕ} {c : Column} → ColumnAt s c rest → NoColumns 64 s 5 64
  -- "elements from left to right"
  column-then : {k n place : ℕ} {s rest : List ℕ} {c : Column} → k < 64 → ColumnAt s c rest → NoColumns (suc k) rest n place → NoColumns k s n place

-- declarations that are refused
pub data NotDeclared (s : List ℕ) : ℕ → ℕ → Type 0 where
  -- 6: "an input over its size"; "declarations up to 65,536 bytes"; "in declarations at place 0"
  declarations-too-long : 65536 < length s → NotDeclared s 6 0
  -- "For each input size comes first"
  not-declared : {n place : ℕ} → length s ≤ 65536 → NoColumns 0 s n place → NotDeclared s n place
