-- Declarations: which texts declare which columns.
use Rattle.std.specs.Prelude.{◌≤◌, suc, ℕ, Bool, false, true, List, [], ◌++◌, ◌∷◌, ◌≡◌, ℤ, length, Option, None, Some}
use Rattle.grammar.specs.Words.{Digit, IntegerWord, Numeral, Tag, Trimmed, White}
use Rattle.table.specs.Bytes.{byte, bytes, is_white}
use Rattle.table.specs.Cell.{column_of, is_scalar, most_elements}
use Rattle.table.specs.Shape.{Bits, Shape, Text, Truths, Whole, Width, last, shape}
use Rattle.table.specs.declared.Column.{Column}
use Rattle.table.specs.declared.Kind.{Kind}
use Rattle.table.specs.declared.Kind.TheVariants.{Bit, Boolean, Int, Long, Short, UnsignedByte}
use Rattle.table.specs.declared.Len.{Len}
use Rattle.table.specs.declared.Len.TheVariants.{Bounded, Fixed, Free}

-- ---- attributes

-- "An attribute name is one or more ASCII letters, digits and `-_:.`"
pub data NameByte : ℕ → Type 0 where
  -- "ASCII letters"
  name-capital : {b : ℕ} → byte "A" ≤ b → b ≤ byte "Z" → NameByte b
  name-small : {b : ℕ} → byte "a" ≤ b → b ≤ byte "z" → NameByte b
  -- "digits"
  name-digit : {b : ℕ} → byte "0" ≤ b → b ≤ byte "9" → NameByte b
  -- "and `-_:.`"
  name-dash : NameByte (byte "-")
  name-underscore : NameByte (byte "_")
  name-colon : NameByte (byte ":")
  name-dot : NameByte (byte ".")

-- "one or more" of them
pub data Name : List ℕ → Type 0 where
  name-last : {b : ℕ} → NameByte b → Name (b ∷ [])
  name-then : {b : ℕ} {s : List ℕ} → NameByte b → Name s → Name (b ∷ s)

-- a value's bytes
pub data Without (quote : ℕ) : List ℕ → Type 0 where
  -- a value may be empty
  without_end : Without quote []
  -- "without `<` or that quote"; any other byte, since "references in it aren't expanded"
  without-then : {b : ℕ} {s : List ℕ} → (b ≡ quote → ⊥) → (b ≡ byte "<" → ⊥) → Without quote s → Without quote (b ∷ s)

-- "its value is in double or single quotes, without `<` or that quote, and references in it aren't expanded"
pub data Quoted : List ℕ → List ℕ → Type 0 where
  -- "in double"
  quoted-double : {s : List ℕ} → Without (byte "\"") s → Quoted (byte "\"" ∷ (s ++ bytes "\"")) s
  -- "or single quotes"
  quoted-single : {s : List ℕ} → Without (byte "'") s → Quoted (byte "'" ∷ (s ++ bytes "'")) s

-- an attribute's text, its name and its value
pub data AttributeText : List ℕ → List ℕ → List ℕ → Type 0 where
  -- "White space .. may stand around `=`"
  attribute-text : {n w u q v : List ℕ} → Name n → White w → White u → Quoted q v → AttributeText (n ++ (w ++ (bytes "=" ++ (u ++ q)))) n v

-- the attributes of a tag, in order: their names and values
pub data AttributesText : List ℕ → List (List ℕ × List ℕ) → Type 0 where
  -- an element may have none
  attributes-end : AttributesText [] []
  -- "White space must precede each attribute"
  attributes-then : {w t n v s : List ℕ} {attrs : List (List ℕ × List ℕ)} (b : ℕ) → is_white b ≡ true → White w → AttributeText t n v
      → AttributesText s attrs → AttributesText ((b ∷ w) ++ (t ++ s)) ((n, v) ∷ attrs)

-- the value of the attribute of a name, if there is one
pub data ValueOf (name : List ℕ) : List (List ℕ × List ℕ) → Option (List ℕ) → Type 0 where
  -- "may stand": need not
  value_none : ValueOf name [] None
  -- "`datatype`, `arraysize`, and in VALUES `null`, may stand once"
  value-here : {v : List ℕ} {attrs : List (List ℕ × List ℕ)} → ValueOf name attrs None → ValueOf name ((name, v) ∷ attrs) (Some v)
  -- "other attributes are skipped" "Names are case-sensitive."
  value-skipped : {n v : List ℕ} {attrs : List (List ℕ × List ℕ)} {o : Option (List ℕ)} → (n ≡ name → ⊥) → ValueOf name attrs o
      → ValueOf name ((n, v) ∷ attrs) o

-- ---- elements

-- VALUES, and its null
pub data ValuesTag : List ℕ → Option (List ℕ) → Type 0 where
  -- "VALUES as an empty-element tag", and "in VALUES `null`, may stand once"
  values-tag : {a w : List ℕ} {attrs : List (List ℕ × List ℕ)} {o : Option (List ℕ)} → AttributesText a attrs → ValueOf (bytes "null") attrs o → White w
      → ValuesTag (bytes "<VALUES" ++ (a ++ (w ++ bytes "/>"))) o

-- what stands between the start tag and the end tag
pub data Inside : List ℕ → Option (List ℕ) → Type 0 where
  -- White space "may stand .. between the tags"
  inside-nothing : {w : List ℕ} → White w → Inside w None
  -- "at most one VALUES"
  inside-values : {w t u : List ℕ} {o : Option (List ℕ)} → White w → ValuesTag t o → White u → Inside (w ++ (t ++ u)) o

-- a FIELD element, its attributes and the null of its VALUES. White space "may stand .. before `>` or `/>`"
pub data FieldText : List ℕ → List (List ℕ × List ℕ) → Option (List ℕ) → Type 0 where
  -- "an empty-element tag"
  field-empty : {a w : List ℕ} {attrs : List (List ℕ × List ℕ)} → AttributesText a attrs → White w
      → FieldText (bytes "<FIELD" ++ (a ++ (w ++ bytes "/>"))) attrs None
  -- "or a start tag, at most one VALUES as an empty-element tag, and the end tag"
  field-tags : {a w b z : List ℕ} {attrs : List (List ℕ × List ℕ)} {o : Option (List ℕ)} → AttributesText a attrs → White w → Inside b o
      → Tag (bytes "</FIELD") (bytes ">") z → FieldText (bytes "<FIELD" ++ (a ++ (w ++ (bytes ">" ++ (b ++ z))))) attrs o

-- ---- the column

-- the kind that a `datatype` names
pub data Datatype : List ℕ → Kind → Type 0 where
  -- "Carried datatypes: boolean, bit, unsignedByte, short, int, long, char."
  datatype-boolean : Datatype (bytes "boolean") Boolean
  datatype-bit : Datatype (bytes "bit") Bit
  datatype-unsigned_byte : Datatype (bytes "unsignedByte") UnsignedByte
  datatype-short : Datatype (bytes "short") Short
  datatype-int : Datatype (bytes "int") Int
  datatype-long : Datatype (bytes "long") Long
  datatype-char : Datatype (bytes "char") Kind.Char

-- the n of a length
pub data SizeText : List ℕ → ℕ → Type 0 where
  -- "`n` is one to four digits, the first not 0, at most 4096."
  size-text : {b : ℕ} {s : List ℕ} {n : ℕ} → Numeral Digit 10 (b ∷ s) n → (b ≡ byte "0" → ⊥) → length (b ∷ s) ≤ 4 → n ≤ most_elements → SizeText (b ∷ s) n

-- "The length of a column is one of three shapes"
pub data Arraysize : Option (List ℕ) → Len → Type 0 where
  -- "No `arraysize` is the same as `1`"
  size-absent : Arraysize None (Fixed 1)
  -- "fixed `n`"
  size-fixed : {s : List ℕ} {n : ℕ} → SizeText s n → Arraysize (Some s) (Fixed n)
  -- "bounded `n*`"
  size-bounded : {s : List ℕ} {n : ℕ} → SizeText s n → Arraysize (Some (s ++ bytes "*")) (Bounded n)
  -- "free `*` (4,096)"
  size-free : Arraysize (Some (bytes "*")) Free

-- the declared null that the `null` of VALUES gives a column
pub data NullText : Shape → Bool → Option (List ℕ) → Option ℤ → Type 0 where
  -- it "may stand": need not
  null-absent : {k : Shape} {scalar : Bool} → NullText k scalar None None
  -- "`null` counts only on scalar integer columns, and is read as a cell of that kind; an empty one is refused."
  null-counts : {g : Bool} {v : Width} {scalar : Bool} {s : List ℕ} {z : ℤ} → scalar ≡ true → Trimmed (IntegerWord g (suc (last v))) s z
      → NullText (Whole g v) scalar (Some s) (Some z)
  -- "Elsewhere it is skipped.": in arrays
  null-array : {g : Bool} {v : Width} {scalar : Bool} {s : List ℕ} → scalar ≡ false → NullText (Whole g v) scalar (Some s) None
  -- and on columns of other kinds
  null-truths : {scalar : Bool} {s : List ℕ} → NullText Truths scalar (Some s) None
  null-bits : {scalar : Bool} {s : List ℕ} → NullText Bits scalar (Some s) None
  null-chars : {scalar : Bool} {s : List ℕ} → NullText Text scalar (Some s) None

-- a FIELD and its column
pub data FieldOf : List ℕ → Column → Type 0 where
  -- "`datatype` is needed"
  field_of : {t d : List ℕ} {attrs : List (List ℕ × List ℕ)} {o a : Option (List ℕ)} {k : Kind} {l : Len} {n : Option ℤ} → FieldText t attrs o
      → ValueOf (bytes "datatype") attrs (Some d) → Datatype d k → ValueOf (bytes "arraysize") attrs a → Arraysize a l → NullText (shape k) (is_scalar (column_of k l None)) o n
      → FieldOf t (column_of k l n)

-- "The text is FIELD elements with only white space around them"
pub data FieldsText : List ℕ → List Column → Type 0 where
  -- white space behind the last
  fields-end : {w : List ℕ} → White w → FieldsText w []
  -- and before each
  fields-then : {w t s : List ℕ} {c : Column} {cs : List Column} → White w → FieldOf t c → FieldsText s cs → FieldsText (w ++ (t ++ s)) (c ∷ cs)

-- a text that declares a column list
pub record Declares (s : List ℕ) (cs : List Column) : Type 0 where
  -- "declarations up to 65,536 bytes"
  pub sized : length s ≤ 65536
  pub fields : FieldsText s cs
  -- "1 to 64 columns"
  pub some : 1 ≤ length cs
  pub few : length cs ≤ 64
