-- The text at a place: a span of bytes, a name and a value, each read from what is left of it, are found by index.
use Prim.Native.Nat.{◌+◌, ◌-◌, ◌<◌, ◌≤◌, suc, zero-le, ℕ}
use native.Mathlib.Omega.{arith}
use mathlib.Core.Bool.{Bool, ◌||◌, cond, false, not, true}
use mathlib.Core.List.{List, [], ◌∷◌}
use mathlib.Core.Path.{◌∙◌, ◌≡◌, ap, refl, sym}
use lib.Dec.{eqb}
use lib.ListN.{drop, get_or, length, take}
use lib.Seq.{drop-drop}
use borrow.Author.Tests.{eq-eqb, ne_eqb}
use Rattle.declaring.specs.Readers.{EndsIs, QuotedIs, SpanEnd, assigned, in_class, is_quote, part, span}
use Rattle.fields.specs.Fields.{is_name_byte, read_value, span_name, span_value}
use Rattle.declaring.specs.declared.spans.Class.{Class}
use Rattle.declaring.specs.declared.spans.Class.TheVariants as of-class
use Rattle.declaring.specs.declared.spans.Span.{Span}
use Rattle.std.specs.Prelude.{None, Option, Some}
use Rattle.table.proofs.Laws.{cond_cases}
use Rattle.table.proofs.Places.{done, next1}
use Rattle.table.specs.Bytes.{bytes}
use Rattle.table.specs.Result.{Result, ◌>>=◌, bad, good}
use Rattle.text.specs.Clauses.{Skipped}

-- ---- a span

module _ (test : ℕ → Bool) where
  pub span-end : (s : List ℕ) (i : ℕ) → length s ≤ i → span test (drop i s) ≡ 0
  unfolding span
  span-end s i h = rw (done s i h)

  pub span-stop : (s : List ℕ) (i : ℕ) → i < length s → test (get_or s i 0) ≡ false → span test (drop i s) ≡ 0
  unfolding span
  span-stop s i h e = rw (next1 s i h) (rw e)

  pub span_more : (s : List ℕ) (i : ℕ) → i < length s → test (get_or s i 0) ≡ true → span test (drop i s) ≡ suc (span test (drop (i + 1) s))
  unfolding span
  span_more s i h e = rw (next1 s i h) (rw e)

  pub span-le : (s : List ℕ) → span test s ≤ length s
  unfolding span
  span-le [] = zero-le
  span-le (b ∷ s) = cond_cases (λ (n : ℕ). n ≤ suc (length s)) (test b) (suc (span test s)) 0 (λ _. omega (arith, span-le s)) (λ _. zero-le)

-- what a span leaves is what the definitions leave
abbrev pub split : ℕ → List ℕ → List ℕ × List ℕ
split n s = (take n s, drop n s)

abbrev one_more : Bool → ℕ → List ℕ → List ℕ × List ℕ → List ℕ × List ℕ
one_more t b s r = cond t (b ∷ r.0, r.1) ([], b ∷ s)

pub name-span : (s : List ℕ) → span_name s ≡ split (span is_name_byte s) s
unfolding span span_name
name-span [] = refl
name-span (b ∷ s) = go (is_name_byte b) (name-span s)
  where
    go : (t : Bool) → span_name s ≡ split (span is_name_byte s) s → one_more t b s (span_name s) ≡ split (cond t (suc (span is_name_byte s)) 0) (b ∷ s)
    go true e = rw e
    go false e = refl

abbrev pub at_quote : Bool → List ℕ → List ℕ → Result ℕ (List ℕ × List ℕ)
at_quote is v s = cond is (good (v, s)) (bad 1)

-- a value ends where neither its bytes nor `<` stand, if the quote is there
abbrev pub until_quote : ℕ → List ℕ → List ℕ → Result ℕ (List ℕ × List ℕ)
until_quote quote v [] = bad 1
until_quote quote v (b ∷ s) = at_quote (eqb b quote) v s

abbrev pub plain : ℕ → ℕ → Bool
plain quote b = not (eqb b quote || eqb b 60)

pub value-span : (quote : ℕ) (s : List ℕ) → span_value quote s ≡ until_quote quote (take (span (plain quote) s) s) (drop (span (plain quote) s) s)
unfolding span span_value
value-span quote [] = refl
value-span quote (b ∷ s) = go (eqb b quote) refl (eqb b 60) (value-span quote s)
  where
    before : (v t : List ℕ) → (until_quote quote v t >>= λ r. good (b ∷ r.0, r.1)) ≡ until_quote quote (b ∷ v) t
    before v [] = refl
    before v (c ∷ t) = quoted (eqb c quote)
      where
        quoted : (e : Bool) → (at_quote e v t >>= λ r. good (b ∷ r.0, r.1)) ≡ at_quote e (b ∷ v) t
        quoted true = refl
        quoted false = refl

    go : (q : Bool) → eqb b quote ≡ q → (l : Bool)
        → span_value quote s ≡ until_quote quote (take (span (plain quote) s) s) (drop (span (plain quote) s) s)
        → cond q (good ([], s)) (cond l (bad 1) (span_value quote s >>= λ v. good (b ∷ v.0, v.1)))
        ≡ until_quote quote (take (cond (not (q || l)) (suc (span (plain quote) s)) 0) (b ∷ s)) (drop (cond (not (q || l)) (suc (span (plain quote) s)) 0) (b ∷ s))
    go true e l h = rw e
    go false e true h = rw e
    go false e false h = rw h (before (take (span (plain quote) s) s) (drop (span (plain quote) s) s))

-- ---- the same, from a place to a place

pub drop-span : (class : Class) (s : List ℕ) (from r : ℕ) → SpanEnd class s from r → drop (span (in_class class) (drop from s)) (drop from s) ≡ drop r s
drop-span class s from r h = drop-drop (span (in_class class) (drop from s)) from s ∙ ap (λ (n : ℕ). drop n s) (sym h.count)

pub take-span : (class : Class) (s : List ℕ) (from r : ℕ) → SpanEnd class s from r → take (span (in_class class) (drop from s)) (drop from s) ≡ part s from r
take-span class s from r h =
    let e : span (in_class class) (drop from s) ≡ r - from = omega (arith, h.count) in ap (λ (n : ℕ). take n (drop from s)) e

pub name-at : (s : List ℕ) (from r : ℕ) → SpanEnd of-class.Name s from r → ◌≡◌ {A = List ℕ × List ℕ} (span_name (drop from s)) (part s from r, drop r s)
name-at s from r h = name-span (drop from s) ∙ rw (take-span of-class.Name s from r h, drop-span of-class.Name s from r h)

pub value-at : (quote : ℕ) (s : List ℕ) (from r : ℕ) → SpanEnd (of-class.Quoted quote) s from r → span_value quote (drop from s) ≡ until_quote quote (part s from r) (drop r s)
value-at quote s from r h =
    value-span quote (drop from s) ∙ rw (take-span (of-class.Quoted quote) s from r h, drop-span (of-class.Quoted quote) s from r h)

-- ---- a value in its quotes

module _ (s : List ℕ) (from : ℕ) (h : from < length s) where
  quote-first : read_value (drop from s) ≡ cond (is_quote (get_or s from 0)) (span_value (get_or s from 0) (drop (from + 1) s)) (bad 1)
  unfolding read_value is_quote
  quote-first = rw (next1 s from h)

  pub quoted-none : is_quote (get_or s from 0) ≡ false → QuotedIs s from (read_value (drop from s)) None
  quoted-none e = record { rest = quote-first ∙ rw e; places = tt }

  module _ (q : is_quote (get_or s from 0) ≡ true) (end : ℕ) (v : SpanEnd (of-class.Quoted (get_or s from 0)) s (from + 1) end) where
    quote-then : read_value (drop from s) ≡ until_quote (get_or s from 0) (part s (from + 1) end) (drop end s)
    quote-then = quote-first ∙ rw q (value-at (get_or s from 0) s (from + 1) end v)

    pub quoted-open : length s ≤ end → QuotedIs s from (read_value (drop from s)) None
    quoted-open g = record { rest = quote-then ∙ rw (done s end g); places = tt }

    pub quoted-yes : end < length s → get_or s end 0 ≡ get_or s from 0 → QuotedIs s from (read_value (drop from s)) (Some (record { start = from + 1; end = end }))
    quoted-yes g e = record {
      rest = quote-then ∙ rw (next1 s end g) (rw (eq-eqb (get_or s end 0) (get_or s from 0) e));
      places = (omega arith, omega (arith, v.onward), g);
    }

    pub quoted-less : end < length s → (get_or s end 0 ≡ get_or s from 0 → ⊥) → QuotedIs s from (read_value (drop from s)) None
    quoted-less g n = record { rest = quote-then ∙ rw (next1 s end g) (rw (ne_eqb (get_or s end 0) (get_or s from 0) n)); places = tt }

-- ---- `=` and the value behind it

pub quoted-from : (s : List ℕ) (from at : ℕ) (p : Result ℕ (List ℕ × List ℕ)) (r : Option Span) → from ≤ at → QuotedIs s at p r → QuotedIs s from p r
quoted-from s from at p None h q = record { rest = q.rest; places = tt }
quoted-from s from at p (Some v) h q = record { rest = q.rest; places = (omega (arith, q.places), q.places.1, q.places.2) }

module _ (s : List ℕ) (from : ℕ) where
  pub assigned-not : EndsIs (bytes "=") s from None → QuotedIs s from (assigned (drop from s)) None
  unfolding assigned
  assigned-not h = record { rest = rw (h.found 1); places = tt }

  module _ (i : ℕ) (h : EndsIs (bytes "=") s from (Some i)) (at : ℕ) (white : Skipped s i at) where
    behind : assigned (drop from s) ≡ read_value (drop at s)
    unfolding assigned
    behind = rw (h.found 1, white.rest)

    pub assigned-none : length s ≤ at → QuotedIs s from (assigned (drop from s)) None
    unfolding read_value
    assigned-none g = record { rest = behind ∙ rw (done s at g); places = tt }

    pub assigned-at : (r : Option Span) → QuotedIs s at (read_value (drop at s)) r → QuotedIs s from (assigned (drop from s)) r
    assigned-at r q = rw behind (quoted-from s from at _ r (omega (arith, h.within.0, white.low)) q)
