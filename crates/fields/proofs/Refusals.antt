-- Declarations refuse with 1 to 6, at a place that is at most 64: by following each refusal of the definition.
use Rattle.std.specs.Prelude.{Option, None, Some}
use Prim.Native.Nat.{◌+◌, ◌-◌, ◌≤◌, suc, zero, zero-le, ℕ}
use native.Mathlib.Omega.{arith}
use mathlib.Core.Bool.{Bool, ◌&&◌, ◌||◌}
use mathlib.Core.List.{List, [], ◌∷◌}
use lib.Dec.{eqb, leb, lit≤, ltb}
use lib.ListN.{length}
use borrow.Author.Tests.{eqb-false}
use Rattle.fields.specs.Fields.{Field, at_most_one, attribute_comes, attributes, attributes_f, before_star, begins, bounded_len, declare, exactly_one}
use Rattle.fields.specs.Fields.{field_body, fields_f, fields_then, judge, kind_of, kinds, len_before, len_of, length_of, null_of, null_value, read_attribute}
use Rattle.fields.specs.Fields.{read_field, read_value, read_values, some_name, span_name, span_value, values_of}
use Rattle.number.specs.Number.{digit, numeral, read_integer}
use Rattle.table.proofs.Laws.{Numbered, after-fails, cond_cases, fails-always, fails-as, fails-bind, fails-cond, fails-else, tag-fails}
use Rattle.table.specs.Bytes.{after, between, byte, bytes, ends, same, skip_white, words}
use Rattle.table.specs.Cell.{column_of, is_scalar, most_elements}
use Rattle.table.specs.Outcome.{Refusal, at, most_declarations}
use Rattle.table.specs.Result.{Fails, Result, ◌>>=◌, bad, fails, gives, good}
use Rattle.table.specs.Shape.{Bits, Shape, Text, Truths, Whole, Width, last, shape}
use Rattle.table.specs.declared.Column.{Column}
use Rattle.table.specs.declared.Kind.{Kind}

-- ---- each part of an element refuses with its own number

-- 1: its shape
module _ {P : ℕ → Type 0} (one : P 1) where
  value-fails : (quote : ℕ) (s : List ℕ) → Fails P (span_value quote s)
  unfolding span_value
  value-fails quote [] = fails one
  value-fails quote (b ∷ s) = fails-cond (eqb b quote) gives (fails-cond (eqb b (byte "<")) (fails one) (fails-bind (value-fails quote s) (λ v. gives)))

  read-value-fails : (s : List ℕ) → Fails P (read_value s)
  unfolding read_value
  read-value-fails [] = fails one
  read-value-fails (b ∷ s) = fails-cond (eqb b (byte "\"") || eqb b (byte "'")) (value-fails b s) (fails one)

  name-fails : (n : List ℕ × List ℕ) → Fails P (some_name n)
  unfolding some_name
  name-fails ([], s) = fails one
  name-fails (b ∷ n, s) = gives

  attribute-fails : (s : List ℕ) → Fails P (read_attribute s)
  unfolding read_attribute ends
  attribute-fails s =
      fails-bind (name-fails (span_name s)) (λ n.
      fails-bind (after-fails 1 (bytes "=") (skip_white n.1) one) (λ t. fails-bind (read-value-fails (skip_white t)) (λ v. gives)))

  attributes-fails : (f : ℕ) (s : List ℕ) → Fails P (attributes_f f s)
  unfolding attributes_f
  attributes-fails zero s = fails one
  attributes-fails (suc f) s =
      fails-cond (attribute_comes s) (fails-bind (attribute-fails (skip_white s)) (λ a. fails-bind (attributes-fails f a.1) (λ r. gives))) gives

  most-one-fails : (vs : List (List ℕ)) → Fails P (at_most_one vs)
  unfolding at_most_one
  most-one-fails [] = gives
  most-one-fails (v ∷ []) = gives
  most-one-fails (v ∷ w ∷ vs) = fails one

  exactly-one-fails : (vs : List (List ℕ)) → Fails P (exactly_one vs)
  unfolding exactly_one
  exactly-one-fails [] = fails one
  exactly-one-fails (v ∷ []) = gives
  exactly-one-fails (v ∷ w ∷ vs) = fails one

  values-fails : (s : List ℕ) → Fails P (read_values s)
  unfolding read_values attributes ends
  values-fails s =
      fails-bind (after-fails 1 (bytes "<VALUES") (skip_white s) one) (λ t.
      fails-bind (attributes-fails (suc (length t)) t) (λ a.
      fails-bind (after-fails 1 (bytes "/>") (skip_white a.1) one) (λ u. fails-bind (most-one-fails (values_of (bytes "null") a.0)) (λ v. gives))))

  begins-fails : {A : Type 0} {x y : Result ℕ A} (r : Result ℕ (List ℕ)) → Fails P x → Fails P y → Fails P (begins r x y)
  unfolding begins
  begins-fails (good s) f g = f
  begins-fails (bad n) f g = g

  body-fails : (s : List ℕ) → Fails P (field_body s)
  unfolding field_body ends
  body-fails s =
      fails-bind (begins-fails (after 1 (bytes "<VALUES") (skip_white s)) (values-fails s) gives) (λ v.
      fails-bind (tag-fails 1 (bytes "</FIELD") (skip_white v.1) one) (λ r. gives))

  pub field-fails : (s : List ℕ) → Fails P (read_field s)
  unfolding read_field attributes ends
  field-fails s =
      fails-bind (after-fails 1 (bytes "<FIELD") s one) (λ t.
      fails-bind (attributes-fails (suc (length t)) t) (λ a.
      fails-bind
      (fails-else (fails-bind (after-fails 1 (bytes "/>") (skip_white a.1) one) (λ r. gives)) (fails-bind (after-fails 1 (bytes ">") (skip_white a.1) one) (λ v. body-fails v)))
      (λ n. fails-bind (exactly-one-fails (values_of (bytes "datatype") a.0)) (λ d. fails-bind (most-one-fails (values_of (bytes "arraysize") a.0)) (λ l. gives)))))

-- 2: its datatype
pub kind-fails : {P : ℕ → Type 0} → P 2 → (ks : List (List ℕ × Kind)) (s : List ℕ) → Fails P (kind_of ks s)
unfolding kind_of
kind-fails two [] s = fails two
kind-fails two (k ∷ ks) s = fails-cond (same k.0 s) gives (kind-fails two ks s)

-- 3: its arraysize
module _ {P : ℕ → Type 0} (three : P 3) where
  length-fails : (s : List ℕ) → Fails P (length_of s)
  unfolding length_of
  length-fails [] = fails three
  length-fails (b ∷ s) =
      fails-cond (between (byte "1") (byte "9") b && leb (length s) 3)
      (fails-bind (fails-always (λ f. 3) (numeral digit 10 (b - 48) s) (λ f. three)) (λ n. fails-cond (leb n most_elements) gives (fails three))) (fails three)

  bounded-fails : (s : List ℕ) → Fails P (bounded_len s)
  unfolding bounded_len
  bounded-fails [] = gives
  bounded-fails (b ∷ s) = fails-bind (length-fails (b ∷ s)) (λ n. gives)

  before-fails : (o : Option (List ℕ)) (s : List ℕ) → Fails P (len_before o s)
  unfolding len_before
  before-fails (Some t) s = bounded-fails t
  before-fails None s = fails-bind (length-fails s) (λ n. gives)

  pub len-fails : (o : Option (List ℕ)) → Fails P (len_of o)
  unfolding len_of
  len-fails None = gives
  len-fails (Some s) = before-fails (before_star s) s

-- 4: its null
module _ {P : ℕ → Type 0} (four : P 4) where
  null-value-fails : (g : Bool) (v : Width) (ws : List (List ℕ)) → Fails P (null_value g v ws)
  unfolding null_value
  null-value-fails g v [] = fails four
  null-value-fails g v (w ∷ []) = fails-bind (fails-always (λ f. 4) (read_integer g (suc (last v)) w) (λ f. four)) (λ z. gives)
  null-value-fails g v (w ∷ x ∷ ws) = fails four

  pub null-fails : (k : Shape) (scalar : Bool) (o : Option (List ℕ)) → Fails P (null_of k scalar o)
  unfolding null_of
  null-fails k scalar None = gives
  null-fails Truths scalar (Some s) = gives
  null-fails Bits scalar (Some s) = gives
  null-fails Text scalar (Some s) = gives
  null-fails (Whole g v) scalar (Some s) = fails-cond scalar (null-value-fails g v (words s)) gives

-- ---- declarations

abbrev one : Numbered 1 6 1
one = (lit≤ tt, lit≤ tt)

judge-fails : (f : Field) → Fails (Numbered 1 6) (judge f)
unfolding judge
judge-fails f =
    fails-bind (kind-fails (lit≤ tt, lit≤ tt) kinds f.datatype) (λ k.
    fails-bind (len-fails (lit≤ tt, lit≤ tt) f.arraysize) (λ l.
    fails-bind (null-fails (lit≤ tt, lit≤ tt) (shape k) (is_scalar (column_of k l None)) f.null) (λ n. gives)))

-- a refusal of declarations: 1 to 6, at a place that is at most 64
abbrev pub AtPlace : Refusal → Type 0
AtPlace e = Numbered 1 6 e.number × (e.column ≤ 64)

five : AtPlace (at 64 5)
unfolding at
five = ((lit≤ tt, lit≤ tt), lit≤ tt)

then-fails : (k : ℕ) (s : List ℕ) (more : List ℕ → Result Refusal (List Column)) → k ≤ 64 → ((t : List ℕ) → k + 1 ≤ 64 → Fails AtPlace (more t)) → Fails AtPlace (fields_then k s more)
unfolding fields_then at
then-fails k [] more h g = fails-cond (eqb k 0) (fails ((lit≤ tt, lit≤ tt), zero-le)) gives
then-fails k (b ∷ s) more h g =
    fails-bind (fails-as (at k) (field-fails one (b ∷ s)) (λ n p. (p, h))) (λ x.
    fails-bind (fails-as (at k) (judge-fails x) (λ n p. (p, h))) (λ c.
    cond_cases (Fails AtPlace) (eqb k 64) (bad (at 64 5)) (more x.rest >>= λ cs. good (c ∷ cs)) (λ _. fails five)
    (λ e. fails-bind (g x.rest (omega (arith, eqb-false k 64 e))) (λ cs. gives))))

fields-fails : (f k : ℕ) (s : List ℕ) → k ≤ 64 → Fails AtPlace (fields_f f k s)
unfolding fields_f at
fields-fails zero k s h = fails (one, h)
fields-fails (suc f) k s h = then-fails k (skip_white s) (λ t. fields_f f (k + 1) t) h (λ t g. fields-fails f (k + 1) t g)

pub declare-fails : (s : List ℕ) → Fails AtPlace (declare s)
unfolding declare at
declare-fails s = fails-cond (ltb most_declarations (length s)) (fails ((lit≤ tt, lit≤ tt), zero-le)) (fields-fails 66 0 s zero-le)
