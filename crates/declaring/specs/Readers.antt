-- What the private functions answer, in the terms of Fields: the code knows a value by where it stands, the definitions by its bytes.
use Rattle.std.specs.Prelude.{Result as Returned, Ok, Err, ◌+◌, ◌-◌, ◌<◌, ◌≤◌, suc, ℕ, Bool, ◌||◌, cond, not, List, [], ◌∷◌, ◌≡◌, eqb, ℤ, drop, length, take, Option, None, Some}
use Rattle.fields.specs.Fields.{Attribute, Field, at_most_one, attributes, field_body, is_name_byte, length_of, null_value, read_value, values_of}
use Rattle.declaring.specs.declared.attributes.Attributes.{Attributes}
use Rattle.declaring.specs.declared.elements.Body.{Body}
use Rattle.declaring.specs.declared.spans.Class.{Class}
use Rattle.declaring.specs.declared.spans.Class.TheVariants as of-class
use Rattle.declaring.specs.declared.elements.Element.{Element}
use Rattle.declaring.specs.declared.attributes.Met.{Met}
use Rattle.declaring.specs.declared.attributes.Met.TheVariants as of-met
use Rattle.declaring.specs.declared.spans.Span.{Span}
use Rattle.declaring.specs.declared.attributes.Tally.{Tally}
use Rattle.table.specs.Bytes.{byte, bytes, ends, same, skip_white, tag, words}
use Rattle.table.specs.Reasons.{number_of}
use Rattle.table.specs.Result.{Result, ◌>>=◌, bad, good, or_else}
use Rattle.table.specs.Shape.{Bits, Shape, Text, Truths, Whole}
use Rattle.table.specs.declared.Column.{Column}
use Rattle.table.specs.declared.Len.{Len}
use Rattle.table.specs.declared.Reason.{Reason}
use Rattle.table.specs.declared.Len.TheVariants.{Fixed}
use Rattle.text.specs.Clauses.{TagIs}

-- ---- parts of a text

-- the bytes from one place to another
abbrev pub part : List ℕ → ℕ → ℕ → List ℕ
part s a b = take (b - a) (drop a s)

-- the bytes of a span, which lies in the text
abbrev pub spanned : List ℕ → Span → List ℕ
spanned s v = part s v.start v.end

abbrev pub SpanIn : List ℕ → Span → Type 0
SpanIn s v = (v.start ≤ v.end) × (v.end ≤ length s)

-- what was read, or the refusal of that number
abbrev pub read_as : {A : Type 0} → ℕ → Option A → Result ℕ A
read_as n None = bad n
read_as n (Some x) = good x

abbrev pub in_class : Class → ℕ → Bool
in_class of-class.Name b = is_name_byte b
in_class (of-class.Quoted quote) b = not (eqb b quote || eqb b (byte "<"))

-- how many bytes at the front pass a test
unfoldable pub span : (ℕ → Bool) → List ℕ → ℕ
span test [] = 0
span test (b ∷ s) = cond (test b) (suc (span test s)) 0

pub record SpanEnd (class : Class) (s : List ℕ) (from r : ℕ) : Type 0 where
  pub count : r ≡ from + span (in_class class) (drop from s)
  pub onward : from ≤ r
  pub inside : r ≤ length s

-- white space, then a word, from a place on
abbrev pub EndsIs : List ℕ → List ℕ → ℕ → Option ℕ → Type 0
EndsIs word s from r = TagIs (λ n. ends n word (drop from s)) s from r

-- ---- values

-- a value in its quotes and what follows the quote behind it, or refusal 1
abbrev pub quoted_of : List ℕ → Option Span → Result ℕ (List ℕ × List ℕ)
quoted_of s None = bad 1
quoted_of s (Some v) = good (spanned s v, drop (v.end + 1) s)

abbrev pub QuotedIn : List ℕ → ℕ → Option Span → Type 0
QuotedIn s from None = Unit {0}
QuotedIn s from (Some v) = (from < v.start) × (v.start ≤ v.end) × (v.end < length s)

pub record QuotedIs (s : List ℕ) (from : ℕ) (p : Result ℕ (List ℕ × List ℕ)) (r : Option Span) : Type 0 where
  pub rest : p ≡ quoted_of s r
  pub places : QuotedIn s from r

-- "in double or single quotes"
unfoldable pub is_quote : ℕ → Bool
is_quote b = eqb b (byte "\"") || eqb b (byte "'")

-- `=` and the value behind it: white space "may stand around `=`"
unfoldable pub assigned : List ℕ → Result ℕ (List ℕ × List ℕ)
assigned s = ends 1 (bytes "=") s >>= λ u. read_value (skip_white u)

-- a value that may stand or not
abbrev pub as_written : List ℕ → Option Span → Option (List ℕ)
as_written s None = None
as_written s (Some v) = Some (spanned s v)

abbrev pub ValueIn : List ℕ → Option Span → Type 0
ValueIn s None = Unit {0}
ValueIn s (Some v) = SpanIn s v

-- ---- attributes

-- "may stand once": the value of an attribute, or refusal 1 where it stands more often
abbrev pub met_of : List ℕ → Met → Result ℕ (Option (List ℕ))
met_of s of-met.Never = good None
met_of s (of-met.Once v) = good (Some (spanned s v))
met_of s of-met.Often = bad 1

abbrev pub MetIn : List ℕ → Met → Type 0
MetIn s of-met.Never = Unit {0}
MetIn s (of-met.Once v) = SpanIn s v
MetIn s of-met.Often = Unit {0}

-- an attribute is met once more
abbrev pub another : Met → Span → Met
another of-met.Never v = of-met.Once v
another (of-met.Once w) v = of-met.Often
another of-met.Often v = of-met.Often

abbrev pub met_again : Bool → Met → Span → Met
met_again counts m v = cond counts (another m v) m

unfoldable pub with_attribute : Tally → List ℕ → Span → Tally
with_attribute t name v = record {
  datatype = met_again (same (bytes "datatype") name) t.datatype v;
  arraysize = met_again (same (bytes "arraysize") name) t.arraysize v;
  null = met_again (same (bytes "null") name) t.null v;
}

-- the attributes that count somewhere: each once, or not at all, or too often
pub record Tallied : Type 0 where
  pub datatype : Result ℕ (Option (List ℕ))
  pub arraysize : Result ℕ (Option (List ℕ))
  pub null : Result ℕ (Option (List ℕ))

unfoldable pub tallied : List Attribute → Tallied
tallied attrs = record {
  datatype = at_most_one (values_of (bytes "datatype") attrs);
  arraysize = at_most_one (values_of (bytes "arraysize") attrs);
  null = at_most_one (values_of (bytes "null") attrs);
}

unfoldable pub tally_of : List ℕ → Tally → Tallied
tally_of s t = record { datatype = met_of s t.datatype; arraysize = met_of s t.arraysize; null = met_of s t.null }

pub record TallyIn (s : List ℕ) (t : Tally) : Type 0 where
  pub datatype-in : MetIn s t.datatype
  pub arraysize-in : MetIn s t.arraysize
  pub null-in : MetIn s t.null

unfoldable pub tallied_in : List ℕ → Result ℕ (Tallied × List ℕ)
tallied_in s = attributes s >>= λ r. good (tallied r.0, r.1)

abbrev pub attributes_of : List ℕ → Option Attributes → Result ℕ (Tallied × List ℕ)
attributes_of s None = bad 1
attributes_of s (Some a) = good (tally_of s a.tally, drop a.next s)

abbrev pub AttributesIn : List ℕ → ℕ → Option Attributes → Type 0
AttributesIn s from None = Unit {0}
AttributesIn s from (Some a) = (from ≤ a.next) × (a.next ≤ length s) × TallyIn s a.tally

pub record AttributesIs (s : List ℕ) (from : ℕ) (r : Option Attributes) : Type 0 where
  pub rest : tallied_in (drop from s) ≡ attributes_of s r
  pub places : AttributesIn s from r

-- ---- an element

abbrev pub body_of : List ℕ → Option Body → Result ℕ (Option (List ℕ) × List ℕ)
body_of s None = bad 1
body_of s (Some b) = good (as_written s b.null, drop b.next s)

abbrev pub BodyIn : List ℕ → ℕ → Option Body → Type 0
BodyIn s from None = Unit {0}
BodyIn s from (Some b) = (from ≤ b.next) × (b.next ≤ length s) × ValueIn s b.null

pub record BodyIs (s : List ℕ) (from : ℕ) (p : Result ℕ (Option (List ℕ) × List ℕ)) (r : Option Body) : Type 0 where
  pub rest : p ≡ body_of s r
  pub places : BodyIn s from r

-- what follows `<VALUES`
unfoldable pub values_behind : List ℕ → Result ℕ (Option (List ℕ) × List ℕ)
values_behind s = tallied_in s >>= λ r. ends 1 (bytes "/>") r.1 >>= λ rest. r.0.null >>= λ v. good (v, rest)

-- "may stand once"
abbrev pub at_most_once : Met → Option (Option Span)
at_most_once of-met.Never = Some None
at_most_once (of-met.Once v) = Some (Some v)
at_most_once of-met.Often = None

-- the end tag, with what was read before it
unfoldable pub end_tag : Option (List ℕ) → List ℕ → Result ℕ (Option (List ℕ) × List ℕ)
end_tag v s = tag 1 (bytes "</FIELD") (skip_white s) >>= λ rest. good (v, rest)

-- what follows the attributes of a FIELD: "an empty-element tag, or a start tag, at most one VALUES as an empty-element tag, and the end tag"
unfoldable pub field_end : List ℕ → Result ℕ (Option (List ℕ) × List ℕ)
field_end u = or_else (ends 1 (bytes "/>") u >>= λ rest. good (None, rest)) (ends 1 (bytes ">") u >>= λ v. field_body v)

unfoldable pub element_of : List ℕ → Element → Field
element_of s e = record {
  datatype = spanned s e.datatype;
  arraysize = as_written s e.arraysize;
  null = as_written s e.null;
  rest = drop e.next s;
}

pub record ElementIn (s : List ℕ) (e : Element) : Type 0 where
  pub datatype-in : SpanIn s e.datatype
  pub arraysize-in : ValueIn s e.arraysize
  pub null-in : ValueIn s e.null

abbrev pub field_read : List ℕ → Option Element → Result ℕ Field
field_read s None = bad 1
field_read s (Some e) = good (element_of s e)

abbrev pub FieldIn : List ℕ → ℕ → Option Element → Type 0
FieldIn s from None = Unit {0}
FieldIn s from (Some e) = (from < e.next) × (e.next ≤ length s) × ElementIn s e

pub record FieldIs (s : List ℕ) (from : ℕ) (p : Result ℕ Field) (r : Option Element) : Type 0 where
  pub rest : p ≡ field_read s r
  pub places : FieldIn s from r

-- ---- the column: 2, 3, 4

-- "fixed `n`"
unfoldable pub fixed_len : List ℕ → Result ℕ Len
fixed_len s = length_of s >>= λ n. good (Fixed n)

-- the null value, or the number of its refusal
abbrev pub null_read : Returned (Option ℤ) Reason → Result ℕ (Option ℤ)
null_read (Ok n) = good n
null_read (Err e) = bad (number_of e)

-- 4: a null value is one element
unfoldable pub one_null : Result ℕ (List ℤ) → Result ℕ (Option ℤ)
one_null (good []) = bad 4
one_null (good (z ∷ [])) = good (Some z)
one_null (good (z ∷ y ∷ es)) = bad 4
one_null (bad n) = bad 4

-- the null value of a scalar: "`null` counts only on scalar integer columns" "Elsewhere it is skipped."
unfoldable pub null_of_scalar : Shape → List ℕ → Result ℕ (Option ℤ)
null_of_scalar Truths s = good None
null_of_scalar Bits s = good None
null_of_scalar Text s = good None
null_of_scalar (Whole g v) s = null_value g v (words s)

abbrev pub judged : Returned Column Reason → Result ℕ Column
judged (Ok c) = good c
judged (Err e) = bad (number_of e)
