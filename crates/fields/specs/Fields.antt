-- Declarations: "a subset of XML" in which FIELD elements declare columns. What is not of this shape is refusal 1.
use Rattle.std.specs.Prelude.{◌+◌, ◌-◌, suc, zero, ℕ, Bool, ◌&&◌, ◌||◌, cond, false, List, [], ◌∷◌, eqb, leb, ltb, length, Option, None, Some, ℤ}
use Rattle.number.specs.Number.{digit, numeral, read_integer}
use Rattle.table.specs.Bytes.{after, between, byte, bytes, ends, is_white, same, skip_white, tag, words}
use Rattle.table.specs.Cell.{column_of, is_scalar, most_elements}
use Rattle.table.specs.Outcome.{Refusal, at, most_declarations}
use Rattle.table.specs.Result.{Result, ◌>>=◌, bad, good, or_else, refused_as}
use Rattle.table.specs.Shape.{Bits, Shape, Text, Truths, Whole, Width, last, shape}
use Rattle.table.specs.declared.Column.{Column}
use Rattle.table.specs.declared.Kind.{Kind}
use Rattle.table.specs.declared.Kind.TheVariants.{Bit, Boolean, Int, Long, Short, UnsignedByte}
use Rattle.table.specs.declared.Len.{Len}
use Rattle.table.specs.declared.Len.TheVariants.{Bounded, Fixed, Free}

-- ---- attributes

pub record Attribute : Type 0 where
  pub name : List ℕ
  pub value : List ℕ

-- "An attribute name is one or more ASCII letters, digits and `-_:.`"
unfoldable pub is_name_byte : ℕ → Bool
is_name_byte b =
    between (byte "A") (byte "Z") b || between (byte "a") (byte "z") b || between (byte "0") (byte "9") b
    || eqb b (byte "-") || eqb b (byte "_") || eqb b (byte ":") || eqb b (byte ".")

-- the longest name at the front, and what follows it
unfoldable pub span_name : List ℕ → List ℕ × List ℕ
span_name [] = ([], [])
span_name (b ∷ s) = let r : List ℕ × List ℕ = span_name s in cond (is_name_byte b) (b ∷ r.0, r.1) ([], b ∷ s)

unfoldable pub some_name : List ℕ × List ℕ → Result ℕ (List ℕ × List ℕ)
some_name ([], s) = bad 1
some_name (b ∷ n, s) = good (b ∷ n, s)

-- "its value is in double or single quotes, without `<` or that quote, and references in it aren't expanded"
unfoldable pub span_value : ℕ → List ℕ → Result ℕ (List ℕ × List ℕ)
span_value quote [] = bad 1
span_value quote (b ∷ s) =
    let r : Result ℕ (List ℕ × List ℕ) = span_value quote s in
    cond (eqb b quote) (good ([], s)) (cond (eqb b (byte "<")) (bad 1) (r >>= λ v. good (b ∷ v.0, v.1)))

unfoldable pub read_value : List ℕ → Result ℕ (List ℕ × List ℕ)
read_value [] = bad 1
read_value (b ∷ s) = cond (eqb b (byte "\"") || eqb b (byte "'")) (span_value b s) (bad 1)

-- name, `=` and value: white space "may stand around `=`"
unfoldable pub read_attribute : List ℕ → Result ℕ (Attribute × List ℕ)
read_attribute s = do
  (name, t) ← some_name (span_name s)
  u ← ends 1 (bytes "=") t
  (value, rest) ← read_value (skip_white u)
  good (record { name = name; value = value }, rest)

unfoldable pub name_comes : List ℕ → Bool
name_comes [] = false
name_comes (b ∷ s) = is_name_byte b

-- "White space must precede each attribute"
unfoldable pub attribute_comes : List ℕ → Bool
attribute_comes [] = false
attribute_comes (b ∷ s) = is_white b && name_comes (skip_white s)

-- attributes up to the end of a tag; the first number bounds them: each takes at least a byte
unfoldable pub attributes_f : ℕ → List ℕ → Result ℕ (List Attribute × List ℕ)
attributes_f zero s = bad 1
attributes_f (suc f) s =
    cond (attribute_comes s)
    (read_attribute (skip_white s) >>= λ a. attributes_f f a.1 >>= λ r. good (a.0 ∷ r.0, r.1))
    (good ([], s))

unfoldable pub attributes : List ℕ → Result ℕ (List Attribute × List ℕ)
attributes s = attributes_f (suc (length s)) s

-- the values of the attributes of a name, in order; "other attributes are skipped"
unfoldable pub values_of : List ℕ → List Attribute → List (List ℕ)
values_of name [] = []
values_of name (a ∷ attrs) = cond (same name a.name) (a.value ∷ values_of name attrs) (values_of name attrs)

-- "`datatype`, `arraysize`, and in VALUES `null`, may stand once"
unfoldable pub at_most_one : List (List ℕ) → Result ℕ (Option (List ℕ))
at_most_one [] = good None
at_most_one (v ∷ []) = good (Some v)
at_most_one (v ∷ w ∷ vs) = bad 1

-- "`datatype` is needed"
unfoldable pub exactly_one : List (List ℕ) → Result ℕ (List ℕ)
exactly_one [] = bad 1
exactly_one (v ∷ []) = good v
exactly_one (v ∷ w ∷ vs) = bad 1

-- ---- an element

-- a FIELD's datatype, its arraysize and its null value as written, and what follows the element
pub record Field : Type 0 where
  pub datatype : List ℕ
  pub arraysize : Option (List ℕ)
  pub null : Option (List ℕ)
  pub rest : List ℕ

-- VALUES "as an empty-element tag": the null value as written, and what follows
unfoldable pub read_values : List ℕ → Result ℕ (Option (List ℕ) × List ℕ)
read_values s = do
  t ← ends 1 (bytes "<VALUES") s
  (attrs, u) ← attributes t
  rest ← ends 1 (bytes "/>") u
  v ← at_most_one (values_of (bytes "null") attrs)
  good (v, rest)

unfoldable pub begins : {A : Type 0} → Result ℕ (List ℕ) → A → A → A
begins (good s) x y = x
begins (bad n) x y = y

-- "at most one VALUES as an empty-element tag, and the end tag"
unfoldable pub field_body : List ℕ → Result ℕ (Option (List ℕ) × List ℕ)
field_body s = do
  (v, t) ← begins (ends 1 (bytes "<VALUES") s) (read_values s) (good (None, s))
  rest ← tag 1 (bytes "</FIELD") (skip_white t)
  good (v, rest)

-- "an empty-element tag, or a start tag, at most one VALUES as an empty-element tag, and the end tag"
unfoldable pub read_field : List ℕ → Result ℕ Field
read_field s = do
  t ← after 1 (bytes "<FIELD") s
  (attrs, u) ← attributes t
  (written, rest) ← or_else (ends 1 (bytes "/>") u >>= λ rest. good (None, rest)) (ends 1 (bytes ">") u >>= λ v. field_body v)
  d ← exactly_one (values_of (bytes "datatype") attrs)
  l ← at_most_one (values_of (bytes "arraysize") attrs)
  good (record { datatype = d; arraysize = l; null = written; rest = rest })

-- ---- the column

-- "Carried datatypes: boolean, bit, unsignedByte, short, int, long, char."
unfoldable pub kinds : List (List ℕ × Kind)
kinds =
    (bytes "boolean", Boolean) ∷ (bytes "bit", Bit) ∷ (bytes "unsignedByte", UnsignedByte) ∷ (bytes "short", Short)
    ∷ (bytes "int", Int) ∷ (bytes "long", Long) ∷ (bytes "char", Kind.Char) ∷ []

-- 2: "datatype not carried"
unfoldable pub kind_of : List (List ℕ × Kind) → List ℕ → Result ℕ Kind
kind_of [] s = bad 2
kind_of (k ∷ ks) s = cond (same k.0 s) (good k.1) (kind_of ks s)

-- "`n` is one to four digits, the first not 0, at most 4096."
unfoldable pub length_of : List ℕ → Result ℕ ℕ
length_of [] = bad 3
length_of (b ∷ s) =
    cond (between (byte "1") (byte "9") b && leb (length s) 3)
    (refused_as (λ f. 3) (numeral digit 10 (b - 48) s) >>= λ n. cond (leb n most_elements) (good n) (bad 3)) (bad 3)

-- what comes before a last `*`, where one is
unfoldable pub before_star : List ℕ → Option (List ℕ)
before_star [] = None
before_star (b ∷ []) = cond (eqb b (byte "*")) (Some []) None
before_star (b ∷ c ∷ s) = put_back b (before_star (c ∷ s))
  where
    put_back : ℕ → Option (List ℕ) → Option (List ℕ)
    put_back b None = None
    put_back b (Some t) = Some (b ∷ t)

-- "bounded `n*`, free `*` (4,096)"
unfoldable pub bounded_len : List ℕ → Result ℕ Len
bounded_len [] = good Free
bounded_len (b ∷ s) = length_of (b ∷ s) >>= λ n. good (Bounded n)

-- "The length of a column is one of three shapes: fixed `n`, bounded `n*`, free `*`"
unfoldable pub len_before : Option (List ℕ) → List ℕ → Result ℕ Len
len_before (Some t) s = bounded_len t
len_before None s = length_of s >>= λ n. good (Fixed n)

-- "No `arraysize` is the same as `1`"
unfoldable pub len_of : Option (List ℕ) → Result ℕ Len
len_of None = good (Fixed 1)
len_of (Some s) = len_before (before_star s) s

-- "read as a cell of that kind; an empty one is refused"
unfoldable pub null_value : Bool → Width → List (List ℕ) → Result ℕ (Option ℤ)
null_value g v [] = bad 4
null_value g v (w ∷ []) = refused_as (λ f. 4) (read_integer g (suc (last v)) w) >>= λ z. good (Some z)
null_value g v (w ∷ x ∷ ws) = bad 4

-- "`null` counts only on scalar integer columns" "Elsewhere it is skipped."
unfoldable pub null_of : Shape → Bool → Option (List ℕ) → Result ℕ (Option ℤ)
null_of k scalar None = good None
null_of Truths scalar (Some s) = good None
null_of Bits scalar (Some s) = good None
null_of Text scalar (Some s) = good None
null_of (Whole g v) scalar (Some s) = cond scalar (null_value g v (words s)) (good None)

-- "in each one shape (through its end), 2, 3, 4"
unfoldable pub judge : Field → Result ℕ Column
judge f = do
  k ← kind_of kinds f.datatype
  l ← len_of f.arraysize
  n ← null_of (shape k) (is_scalar (column_of k l None)) f.null
  good (column_of k l n)

-- ---- the whole text

-- FIELD k and those after it, at s, where no white space is left: "then 5 for a 65th; no column at the end" "The place is the number of
-- whole FIELDs before"
unfoldable pub fields_then : ℕ → List ℕ → (List ℕ → Result Refusal (List Column)) → Result Refusal (List Column)
fields_then k [] more = cond (eqb k 0) (bad (at 0 5)) (good [])
fields_then k (b ∷ s) more = do
  f ← refused_as (at k) (read_field (b ∷ s))
  c ← refused_as (at k) (judge f)
  cond (eqb k 64) (bad (at 64 5)) (more f.rest >>= λ cs. good (c ∷ cs))

-- "The text is FIELD elements with only white space around them"; the first number bounds the FIELDs
unfoldable pub fields_f : ℕ → ℕ → List ℕ → Result Refusal (List Column)
fields_f zero k s = bad (at k 1)
fields_f (suc f) k s = fields_then k (skip_white s) (λ t. fields_f f (k + 1) t)

-- "For each input size comes first: 6 stands at row 0, column 0, in declarations at place 0." The 66th element is never looked at.
unfoldable pub declare : List ℕ → Result Refusal (List Column)
declare s = cond (ltb most_declarations (length s)) (bad (at 0 6)) (fields_f 66 0 s)
