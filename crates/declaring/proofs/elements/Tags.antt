-- A FIELD from its tags: each definition as what follows the part that was read last.
use Rattle.std.specs.Prelude.{Option, None, Some}
use Prim.Native.Nat.{◌<◌, ◌≤◌, ℕ}
use native.Mathlib.Omega.{arith}
use mathlib.Core.List.{List, [], ◌∷◌}
use mathlib.Core.Path.{◌∙◌, ◌≡◌, ap, refl, subst}
use lib.ListN.{drop, length-drop}
use Rattle.declaring.specs.Readers.{AttributesIs, BodyIs, EndsIs, FieldIs, MetIn, Tallied, ValueIn, as_written, at_most_once, element_of}
use Rattle.declaring.specs.Readers.{end_tag, field_end, met_of, tallied, tallied_in, tally_of, values_behind}
use Rattle.fields.specs.Fields.{Attribute, Field, at_most_one, attributes, begins, exactly_one, field_body, read_field, read_values, values_of}
use Rattle.declaring.specs.declared.elements.Body.{Body}
use Rattle.declaring.specs.declared.attributes.Met.{Met}
use Rattle.declaring.specs.declared.attributes.Met.TheVariants as of-met
use Rattle.declaring.specs.declared.attributes.Attributes.{Attributes}
use Rattle.declaring.specs.declared.spans.Span.{Span}
use Rattle.table.proofs.Laws.{after-le, holds_at}
use Rattle.table.specs.Bytes.{after, bytes, ends, tag}
use Rattle.table.specs.Result.{Result, ◌>>=◌, bad, good}
use Rattle.text.specs.Clauses.{Skipped, TagIs}

pub body-from : (s : List ℕ) (from at : ℕ) (p q : Result ℕ (Option (List ℕ) × List ℕ)) (r : Option Body) → from ≤ at → p ≡ q → BodyIs s at q r → BodyIs s from p r
body-from s from at p q None h e b = record { rest = e ∙ b.rest; places = tt }
body-from s from at p q (Some y) h e b = record { rest = e ∙ b.rest; places = (omega (arith, b.places.0), b.places.1, b.places.2) }

pub body-broken : (s : List ℕ) (from : ℕ) (p : Result ℕ (Option (List ℕ) × List ℕ)) → p ≡ bad 1 → BodyIs s from p None
body-broken s from p e = record { rest = e; places = tt }

-- ---- the end tag

module _ (s : List ℕ) (from : ℕ) (v : Option Span) (i : ℕ) (white : Skipped s from i) where
  pub end-tag-no : TagIs (λ n. tag n (bytes "</FIELD") (drop i s)) s i None → BodyIs s from (end_tag (as_written s v) (drop from s)) None
  unfolding end_tag
  end-tag-no h = body-broken s from _ (rw (white.rest, h.found 1))

  pub end-tag-yes : (next : ℕ) → TagIs (λ n. tag n (bytes "</FIELD") (drop i s)) s i (Some next) → ValueIn s v
      → BodyIs s from (end_tag (as_written s v) (drop from s)) (Some (record { null = v; next = next }))
  unfolding end_tag
  end-tag-yes next h w = record { rest = rw (white.rest, h.found 1); places = (omega (arith, white.low, h.within.0), h.within.1, w) }

-- ---- an attribute that may stand once

pub once-met : (s : List ℕ) (m : Met) (v : Option Span) → at_most_once m ≡ Some v → (met_of s m ≡ good (as_written s v)) × (MetIn s m → ValueIn s v)
once-met s of-met.Never v q =
    let p : None ≡ v = (let e : ◌≡◌ {A = Option (Option Span)} (Some None) (Some v) = q in cc) in
    (ap (λ (x : Option Span). good (as_written s x)) p, λ i. subst (ValueIn s) p tt)
once-met s (of-met.Once w) v q =
    let p : Some w ≡ v = (let e : ◌≡◌ {A = Option (Option Span)} (Some (Some w)) (Some v) = q in cc) in
    (ap (λ (x : Option Span). good (as_written s x)) p, λ i. subst (ValueIn s) p i)
once-met s of-met.Often v q = absurd (let e : ◌≡◌ {A = Option (Option Span)} None (Some v) = q in cc)

pub often-met : (s : List ℕ) (m : Met) → at_most_once m ≡ None → met_of s m ≡ bad 1
often-met s of-met.Never q = absurd (let p : ◌≡◌ {A = Option (Option Span)} (Some None) None = q in cc)
often-met s (of-met.Once w) q = absurd (let p : ◌≡◌ {A = Option (Option Span)} (Some (Some w)) None = q in cc)
often-met s of-met.Often q = refl

-- ---- VALUES

module _ (s : List ℕ) (from : ℕ) where
  pub values-broken : AttributesIs s from None → BodyIs s from (values_behind (drop from s)) None
  unfolding values_behind
  values-broken h = body-broken s from _ (rw h.rest)

  module _ (a : Attributes) (h : AttributesIs s from (Some a)) where
    pub values-open : EndsIs (bytes "/>") s a.next None → BodyIs s from (values_behind (drop from s)) None
    unfolding values_behind
    values-open k = body-broken s from _ (rw (h.rest, k.found 1))

    module _ (next : ℕ) (k : EndsIs (bytes "/>") s a.next (Some next)) where
      pub values-often : at_most_once a.tally.null ≡ None → BodyIs s from (values_behind (drop from s)) None
      unfolding values_behind tally_of
      values-often e = body-broken s from _ (rw (h.rest, k.found 1) (rw (often-met s a.tally.null e)))

      pub values-at : (v : Option Span) → at_most_once a.tally.null ≡ Some v → BodyIs s from (values_behind (drop from s)) (Some (record { null = v; next = next }))
      unfolding values_behind tally_of
      values-at v e =
          let m = once-met s a.tally.null v e in
          record { rest = rw (h.rest, k.found 1) (rw m.0); places = (omega (arith, h.places.0, k.within.0), k.within.1, m.1 h.places.2.null-in) }

abbrev tail : List Attribute × List ℕ → Result ℕ (Option (List ℕ) × List ℕ)
tail r = ends 1 (bytes "/>") r.1 >>= λ rest. at_most_one (values_of (bytes "null") r.0) >>= λ v. good (v, rest)

abbrev tail_of : Tallied × List ℕ → Result ℕ (Option (List ℕ) × List ℕ)
tail_of r = ends 1 (bytes "/>") r.1 >>= λ rest. r.0.null >>= λ v. good (v, rest)

abbrev counted : List Attribute × List ℕ → Result ℕ (Tallied × List ℕ)
counted x = good (tallied x.0, x.1)

values-after : (s : List ℕ) → read_values s ≡ (ends 1 (bytes "<VALUES") s >>= λ t. values_behind t)
unfolding read_values values_behind tallied_in tallied
values-after s = outer (ends 1 (bytes "<VALUES") s)
  where
    inner : (r : Result ℕ (List Attribute × List ℕ)) → (r >>= tail) ≡ ((r >>= counted) >>= tail_of)
    inner (good r) = refl
    inner (bad n) = refl

    outer : (r : Result ℕ (List ℕ)) → (r >>= λ t. attributes t >>= tail) ≡ (r >>= λ t. values_behind t)
    outer (good t) = inner (attributes t)
    outer (bad n) = refl

-- ---- what stands in a FIELD

module _ (s : List ℕ) (from : ℕ) where
  body_is : field_body (drop from s) ≡ (begins (ends 1 (bytes "<VALUES") (drop from s)) (read_values (drop from s)) (good (None, drop from s)) >>= λ r. end_tag r.0 r.1)
  unfolding field_body end_tag
  body_is = refl

  pub body-none : (r : Option Body) → EndsIs (bytes "<VALUES") s from None → BodyIs s from (end_tag None (drop from s)) r → BodyIs s from (field_body (drop from s)) r
  unfolding begins
  body-none r h b = body-from s from from _ _ r (omega arith) (body_is ∙ rw (h.found 1)) b

  module _ (i : ℕ) (h : EndsIs (bytes "<VALUES") s from (Some i)) where
    body-then : field_body (drop from s) ≡ (values_behind (drop i s) >>= λ r. end_tag r.0 r.1)
    unfolding begins
    body-then = body_is ∙ rw (values-after (drop from s), h.found 1)

    pub body-values-broken : BodyIs s i (values_behind (drop i s)) None → BodyIs s from (field_body (drop from s)) None
    body-values-broken b = body-broken s from _ (body-then ∙ rw b.rest)

    pub body-values : (v : Option Span) (k : ℕ) (r : Option Body) → BodyIs s i (values_behind (drop i s)) (Some (record { null = v; next = k }))
        → BodyIs s k (end_tag (as_written s v) (drop k s)) r → BodyIs s from (field_body (drop from s)) r
    body-values v k r b d = body-from s from k _ _ r (omega (arith, h.within.0, b.places.0)) (body-then ∙ rw b.rest) d

-- ---- what follows the attributes of a FIELD

module _ (s : List ℕ) (from : ℕ) where
  pub rest-empty : (next : ℕ) → EndsIs (bytes "/>") s from (Some next) → BodyIs s from (field_end (drop from s)) (Some (record { null = None; next = next }))
  unfolding field_end
  rest-empty next h = record { rest = rw (h.found 1); places = (h.within.0, h.within.1, tt) }

  module _ (h : EndsIs (bytes "/>") s from None) where
    pub rest-broken : EndsIs (bytes ">") s from None → BodyIs s from (field_end (drop from s)) None
    unfolding field_end
    rest-broken k = body-broken s from _ (rw (h.found 1, k.found 1))

    pub rest-body : (i : ℕ) (r : Option Body) → EndsIs (bytes ">") s from (Some i) → BodyIs s i (field_body (drop i s)) r → BodyIs s from (field_end (drop from s)) r
    unfolding field_end
    rest-body i r k b = body-from s from i _ _ r k.within.0 (rw (h.found 1, k.found 1)) b

-- ---- a FIELD

abbrev needed : Result ℕ (Option (List ℕ)) → Result ℕ (List ℕ)
needed (good None) = bad 1
needed (good (Some v)) = good v
needed (bad n) = bad n

needed-one : (vs : List (List ℕ)) → exactly_one vs ≡ needed (at_most_one vs)
unfolding exactly_one at_most_one
needed-one [] = refl
needed-one (v ∷ []) = refl
needed-one (v ∷ w ∷ vs) = refl

abbrev field_with : Result ℕ (List ℕ) → Result ℕ (Option (List ℕ)) → Option (List ℕ) × List ℕ → Result ℕ Field
field_with datatype arraysize b = datatype >>= λ d. arraysize >>= λ l. good (record { datatype = d; arraysize = l; null = b.0; rest = b.1 })

abbrev field_of : Tallied × List ℕ → Option (List ℕ) × List ℕ → Result ℕ Field
field_of r b = field_with (needed r.0.datatype) r.0.arraysize b

abbrev written : List Attribute → Option (List ℕ) × List ℕ → Result ℕ Field
written attrs b = field_with (exactly_one (values_of (bytes "datatype") attrs)) (at_most_one (values_of (bytes "arraysize") attrs)) b

field-after : (s : List ℕ) → read_field s ≡ (after 1 (bytes "<FIELD") s >>= λ t. tallied_in t >>= λ r. field_end r.1 >>= λ b. field_of r b)
unfolding read_field tallied_in tallied field_end
field-after s = outer (after 1 (bytes "<FIELD") s)
  where
    last : (attrs : List Attribute) (u : List ℕ) (b : Result ℕ (Option (List ℕ) × List ℕ)) → (b >>= written attrs) ≡ (b >>= λ x. field_of (tallied attrs, u) x)
    last attrs u (good b) = rw (needed-one (values_of (bytes "datatype") attrs))
    last attrs u (bad n) = refl

    inner : (r : Result ℕ (List Attribute × List ℕ)) → (r >>= λ x. field_end x.1 >>= written x.0) ≡ ((r >>= counted) >>= λ r. field_end r.1 >>= λ b. field_of r b)
    inner (good r) = last r.0 r.1 (field_end r.1)
    inner (bad n) = refl

    outer : (r : Result ℕ (List ℕ)) → (r >>= λ t. attributes t >>= λ x. field_end x.1 >>= written x.0) ≡ (r >>= λ t. tallied_in t >>= λ r. field_end r.1 >>= λ b. field_of r b)
    outer (good t) = inner (attributes t)
    outer (bad n) = refl

pub field-broken : (s : List ℕ) (from : ℕ) (p : Result ℕ Field) → p ≡ bad 1 → FieldIs s from p None
field-broken s from p e = record { rest = e; places = tt }

abbrev pub StartIs : List ℕ → ℕ → Option ℕ → Type 0
StartIs s from r = TagIs (λ n. after n (bytes "<FIELD") (drop from s)) s from r

module _ (s : List ℕ) (from : ℕ) where
  pub field-not : StartIs s from None → FieldIs s from (read_field (drop from s)) None
  field-not e = field-broken s from _ (field-after (drop from s) ∙ rw (e.found 1))

  module _ (behind : ℕ) (e : StartIs s from (Some behind)) where
    field-then : read_field (drop from s) ≡ (tallied_in (drop behind s) >>= λ r. field_end r.1 >>= λ b. field_of r b)
    field-then = field-after (drop from s) ∙ rw (e.found 1)

    field-on : from < behind
    field-on = omega (arith, holds_at (after-le 1 (bytes "<FIELD") (drop from s)) (e.found 1), length-drop behind s, length-drop from s, e.within)

    pub field-attributes-broken : AttributesIs s behind None → FieldIs s from (read_field (drop from s)) None
    field-attributes-broken h = field-broken s from _ (field-then ∙ rw h.rest)

    module _ (a : Attributes) (h : AttributesIs s behind (Some a)) where
      pub field_open : BodyIs s a.next (field_end (drop a.next s)) None → FieldIs s from (read_field (drop from s)) None
      field_open b = field-broken s from _ (field-then ∙ rw (h.rest, b.rest))

      module _ (y : Body) (b : BodyIs s a.next (field_end (drop a.next s)) (Some y)) where
        far : from < y.next
        far = omega (arith, field-on, h.places.0, b.places.0)

        written-as : read_field (drop from s) ≡ field_with (needed (met_of s a.tally.datatype)) (met_of s a.tally.arraysize) (as_written s y.null, drop y.next s)
        unfolding tally_of
        written-as = field-then ∙ rw (h.rest, b.rest)

        pub datatype-often : at_most_once a.tally.datatype ≡ None → FieldIs s from (read_field (drop from s)) None
        datatype-often e = field-broken s from _ (written-as ∙ rw (often-met s a.tally.datatype e))

        pub datatype-never : at_most_once a.tally.datatype ≡ Some None → FieldIs s from (read_field (drop from s)) None
        datatype-never e = field-broken s from _ (written-as ∙ rw (once-met s a.tally.datatype None e).0)

        module _ (d : Span) (once : at_most_once a.tally.datatype ≡ Some (Some d)) where
          pub arraysize-often : at_most_once a.tally.arraysize ≡ None → FieldIs s from (read_field (drop from s)) None
          arraysize-often f = field-broken s from _ (written-as ∙ rw ((once-met s a.tally.datatype (Some d) once).0, often-met s a.tally.arraysize f))

          pub field_at : (v : Option Span) → at_most_once a.tally.arraysize ≡ Some v
              → FieldIs s from (read_field (drop from s)) (Some (record { datatype = d; arraysize = v; null = y.null; next = y.next }))
          unfolding element_of
          field_at v f =
              let datatype = once-met s a.tally.datatype (Some d) once in
              let arraysize = once-met s a.tally.arraysize v f in
              record {
                rest = written-as ∙ rw (datatype.0, arraysize.0);
                places = (far, b.places.1, record { datatype-in = datatype.1 h.places.2.datatype-in; arraysize-in = arraysize.1 h.places.2.arraysize-in; null-in = b.places.2 });
              }
