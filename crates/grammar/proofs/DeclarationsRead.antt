-- Declarations are read exactly, up to the FIELD: names, values, attributes, VALUES, FIELD elements. The reader is followed step by step; each
-- step says what it took from the front of the text.
use Rattle.std.specs.Prelude.{Option, None, Some}
use Prim.Native.Nat.{◌<◌, ◌≤◌, suc, zero, ℕ}
use native.Mathlib.Omega.{arith}
use mathlib.Core.Bool.{Bool, ◌||◌, cond, false, false≢true, or-true, true}
use mathlib.Core.List.{List, [], ◌++◌, ◌∷◌, append_assoc, map}
use mathlib.Core.Path.{◌∙◌, ◌≡◌, ap, refl, subst⁻¹, subst₂, sym}
use lib.Dec.{eqb, lit≤}
use lib.ListN.{length, length-append}
use borrow.Author.Tests.{eq-eqb, eqb-false, eqb-true, ne_eqb}
use Rattle.fields.specs.Fields.{Attribute, Field, at_most_one, attribute_comes, attributes, attributes_f, begins, exactly_one, field_body, is_name_byte}
use Rattle.fields.specs.Fields.{name_comes, read_attribute, read_field, read_value, read_values, some_name, span_name, span_value, values_of}
use Rattle.grammar.proofs.Fronts.{Front, after_is, ends_is, ends-word, skip_is, skip-stays, skip-white}
use Rattle.grammar.proofs.TextRead.{Indented, ends-other}
use Rattle.grammar.proofs.WordsRead.{same_read, three-bytes}
use Rattle.grammar.specs.Declarations.{AttributeText, AttributesText, FieldText, Inside, Name, NameByte, Quoted, ValueOf, ValuesTag, Without, attribute-text}
use Rattle.grammar.specs.Declarations.{attributes-end, attributes-then, field-empty, field-tags, inside-nothing, inside-values, name-capital, name-colon}
use Rattle.grammar.specs.Declarations.{name-dash, name-digit, name-dot, name-last, name-small, name-then, name-underscore, quoted-double, quoted-single}
use Rattle.grammar.specs.Declarations.{value-here, value_none, value-skipped, values-tag, without_end, without-then}
use Rattle.grammar.specs.Words.{Tag, White, a-tag, white-end, white-then}
use Rattle.table.proofs.Bytes.{same-is}
use Rattle.table.proofs.Laws.{and_both, between_is, between-yes, cond_cases, holds-bind, holds-cond, holds-else, holds-weaken, no-white, or-either}
use Rattle.table.specs.Bytes.{after, between, bytes, ends, is_white, same, skip_white, tag}
use Rattle.table.specs.Result.{Holds, Result, ◌>>=◌, bad, good, holds, or_else, refuses}

-- ---- names

four : (P : ℕ → Type 0) (b : ℕ) → is_white b ≡ true → P 9 → P 10 → P 13 → P 32 → P b
unfolding is_white
four P b h p q r s =
    or-either (eqb b 9 || eqb b 10 || eqb b 13) (eqb b 32) h (λ k. three-bytes P b 9 10 13 k p q r) (λ e. subst⁻¹ P (eqb-true b 32 e) s)

white-no-name : (b : ℕ) → is_white b ≡ true → is_name_byte b ≡ false
unfolding is_name_byte between
white-no-name b h = four (λ (x : ℕ). is_name_byte x ≡ false) b h refl refl refl refl

name-byte-read : {b : ℕ} → NameByte b → is_name_byte b ≡ true
unfolding is_name_byte
name-byte-read (name-capital {b = b} h k) = rw (between-yes 65 90 b h k)
name-byte-read (name-small {b = b} h k) = rw (between-yes 97 122 b h k, or-true)
name-byte-read (name-digit {b = b} h k) = rw (between-yes 48 57 b h k, or-true)
name-byte-read name-dash = unfold between in refl
name-byte-read name-underscore = unfold between in refl
name-byte-read name-colon = unfold between in refl
name-byte-read name-dot = unfold between in refl

name-byte-is : (b : ℕ) → is_name_byte b ≡ true → NameByte b
unfolding is_name_byte
name-byte-is b h =
    or-either (between 65 90 b || between 97 122 b || between 48 57 b || eqb b 45 || eqb b 95 || eqb b 58) (eqb b 46) h (λ h.
    or-either (between 65 90 b || between 97 122 b || between 48 57 b || eqb b 45 || eqb b 95) (eqb b 58) h (λ h.
    or-either (between 65 90 b || between 97 122 b || between 48 57 b || eqb b 45) (eqb b 95) h (λ h.
    or-either (between 65 90 b || between 97 122 b || between 48 57 b) (eqb b 45) h (λ h.
    or-either (between 65 90 b || between 97 122 b) (between 48 57 b) h (λ h.
    or-either (between 65 90 b) (between 97 122 b) h
    (λ k. name-capital (between_is 65 90 b k).0 (between_is 65 90 b k).1)
    (λ k. name-small (between_is 97 122 b k).0 (between_is 97 122 b k).1))
    (λ k. name-digit (between_is 48 57 b k).0 (between_is 48 57 b k).1))
    (λ e. subst⁻¹ NameByte (eqb-true b 45 e) name-dash))
    (λ e. subst⁻¹ NameByte (eqb-true b 95 e) name-underscore))
    (λ e. subst⁻¹ NameByte (eqb-true b 58 e) name-colon))
    (λ e. subst⁻¹ NameByte (eqb-true b 46 e) name-dot)

name-dark : (b : ℕ) → is_name_byte b ≡ true → is_white b ≡ false
name-dark b h = go (is_white b) refl
  where
    go : (t : Bool) → is_white b ≡ t → is_white b ≡ false
    go true e = absurd (false≢true (sym (white-no-name b e) ∙ h))
    go false e = e

span-stops : (t : List ℕ) → name_comes t ≡ false → span_name t ≡ ([], t)
unfolding span_name name_comes
span-stops [] h = refl
span-stops (b ∷ t) h = rw h

span-read : {n : List ℕ} → Name n → (t : List ℕ) → name_comes t ≡ false → span_name (n ++ t) ≡ (n, t)
unfolding span_name
span-read (name-last b) t h = rw (name-byte-read b, span-stops t h)
span-read (name-then b n) t h = rw (name-byte-read b, span-read n t h)

some-name-read : {n : List ℕ} → Name n → (t : List ℕ) → some_name (n, t) ≡ good (n, t)
unfolding some_name
some-name-read (name-last b) t = refl
some-name-read (name-then b n) t = refl

-- a name, or nothing
data NameMaybe : List ℕ → Type 0 where
  no_name : NameMaybe []
  a-name : {n : List ℕ} → Name n → NameMaybe n

name-on : {b : ℕ} {n : List ℕ} → NameByte b → NameMaybe n → NameMaybe (b ∷ n)
name-on h no_name = a-name (name-last h)
name-on h (a-name n) = a-name (name-then h n)

abbrev Spanned : List ℕ → List ℕ × List ℕ → Type 0
Spanned s p = NameMaybe p.0 × (s ≡ p.0 ++ p.1)

span-is : (s : List ℕ) → Spanned s (span_name s)
unfolding span_name
span-is [] = (no_name, refl)
span-is (b ∷ s) =
    let r = span-is s in
    cond_cases (Spanned (b ∷ s)) (is_name_byte b) (b ∷ (span_name s).0, (span_name s).1) ([], b ∷ s)
    (λ h. (name-on (name-byte-is b h) r.0, ap (λ (x : List ℕ). b ∷ x) r.1)) (λ _. (no_name, refl))

some-name-is : (s : List ℕ) (p : List ℕ × List ℕ) → Spanned s p → Holds (λ (q : List ℕ × List ℕ). Name q.0 × (s ≡ q.0 ++ q.1)) (some_name p)
some-name-is s p h = go p.0 p.1 h.0 h.1
  where
    go : (n t : List ℕ) → NameMaybe n → s ≡ n ++ t → Holds (λ (q : List ℕ × List ℕ). Name q.0 × (s ≡ q.0 ++ q.1)) (some_name (n, t))
    go [] t m e = unfold some_name in refuses
    go (b ∷ n) t (a-name m) e = unfold some_name in holds (m, e)

-- ---- values

value_read : (quote : ℕ) {v : List ℕ} → Without quote v → (t : List ℕ) → span_value quote (v ++ (quote ∷ t)) ≡ good (v, t)
unfolding span_value
value_read quote without_end t = rw (eq-eqb quote quote refl)
value_read quote (without-then {b = b} h k r) t = rw (ne_eqb b quote h, ne_eqb b 60 k, value_read quote r t)

value-is : (quote : ℕ) (s : List ℕ) → Holds (λ (p : List ℕ × List ℕ). Without quote p.0 × (s ≡ p.0 ++ (quote ∷ p.1))) (span_value quote s)
unfolding span_value
value-is quote [] = refuses
value-is quote (b ∷ s) =
    holds-cond (eqb b quote) (λ e. holds (without_end, ap (λ (x : ℕ). x ∷ s) (eqb-true b quote e))) (λ q.
    holds-cond (eqb b 60) (λ _. refuses) (λ l.
    holds-bind (value-is quote s) (λ v h. holds (without-then (eqb-false b quote q) (eqb-false b 60 l) h.0, ap (λ (x : List ℕ). b ∷ x) h.1))))

quoted-read : {q v : List ℕ} → Quoted q v → (u : List ℕ) → White u → (t : List ℕ) → read_value (skip_white (u ++ (q ++ t))) ≡ good (v, t)
unfolding read_value
quoted-read (quoted-double {s = v} h) u w t = rw (skip-white w, skip-stays 34 _ (no-white 34 (lit≤ tt)), append_assoc v (34 ∷ []) t) (value_read 34 h t)
quoted-read (quoted-single {s = v} h) u w t = rw (skip-white w, skip-stays 39 _ (no-white 39 (lit≤ tt)), append_assoc v (39 ∷ []) t) (value_read 39 h t)

quoted-is : (s : List ℕ) → Holds (Front Quoted s) (read_value s)
unfolding read_value
quoted-is [] = refuses
quoted-is (b ∷ s) =
    holds-cond (eqb b 34 || eqb b 39) (λ h. or-either (eqb b 34) (eqb b 39) h
    (λ e. rw (eqb-true b 34 e) (holds-weaken (value-is 34 s) (λ p k.
    record { taken = 34 ∷ (p.0 ++ (34 ∷ [])); whole = ap (λ (x : List ℕ). 34 ∷ x) (k.1 ∙ sym (append_assoc p.0 (34 ∷ []) p.1)); spelled = quoted-double k.0 })))
    (λ e. rw (eqb-true b 39 e) (holds-weaken (value-is 39 s) (λ p k.
    record { taken = 39 ∷ (p.0 ++ (39 ∷ [])); whole = ap (λ (x : List ℕ). 39 ∷ x) (k.1 ∙ sym (append_assoc p.0 (39 ∷ []) p.1)); spelled = quoted-single k.0 }))))
    (λ _. refuses)

-- ---- an attribute

abbrev pub Pair : Type 0
Pair = List ℕ × List ℕ

abbrev as_pair : Attribute → Pair
as_pair a = (a.name, a.value)

abbrev of_pair : Pair → Attribute
of_pair p = record { name = p.0; value = p.1 }

no-name-behind : (c : ℕ) {w : List ℕ} (t : List ℕ) → White w → is_name_byte c ≡ false → name_comes (w ++ (c ∷ t)) ≡ false
unfolding name_comes
no-name-behind c t white-end h = h
no-name-behind c t (white-then {b = b} k w) h = white-no-name b k

attribute-read : {a n v : List ℕ} → AttributeText a n v → (t : List ℕ) → read_attribute (a ++ t) ≡ good (of_pair (n, v), t)
unfolding read_attribute
attribute-read (attribute-text {n = n} {w = w} {u = u} {q = q} h k l r) t =
    rw (
      append_assoc n (w ++ (61 ∷ (u ++ q))) t,
      append_assoc w (61 ∷ (u ++ q)) t,
      span-read h (w ++ (61 ∷ ((u ++ q) ++ t))) (no-name-behind 61 _ k (unfold is_name_byte between in refl)),
      some-name-read h (w ++ (61 ∷ ((u ++ q) ++ t))),
      ends-word 1 61 [] ((u ++ q) ++ t) (no-white 61 (lit≤ tt)) k,
      append_assoc u q t,
      quoted-read r u l t,
    )

attribute-is : (s : List ℕ) → Holds (Front (λ (a : List ℕ) (x : Attribute). AttributeText a x.name x.value) s) (read_attribute s)
unfolding read_attribute
attribute-is s =
    holds-bind (some-name-is s (span_name s) (span-is s)) (λ n h.
    holds-bind (ends_is 1 (bytes "=") n.1) (λ u k.
    holds-bind (quoted-is (skip_white u)) (λ v r. holds (record {
      taken = n.0 ++ (k.spelled.0 ++ (61 ∷ ((skip_is u).taken ++ r.taken)));
      whole = h.1 ∙ ap (λ (x : List ℕ). n.0 ++ x) (k.whole ∙ ap (λ (x : List ℕ). x ++ u) k.spelled.2 ∙ append_assoc k.spelled.0 (61 ∷ []) u
          ∙ ap (λ (x : List ℕ). k.spelled.0 ++ (61 ∷ x)) ((skip_is u).whole ∙ ap (λ (x : List ℕ). (skip_is u).taken ++ x) r.whole ∙ sym (append_assoc (skip_is u).taken r.taken v.1))
          ∙ sym (append_assoc k.spelled.0 (61 ∷ ((skip_is u).taken ++ r.taken)) v.1))
          ∙ sym (append_assoc n.0 (k.spelled.0 ++ (61 ∷ ((skip_is u).taken ++ r.taken))) v.1);
      spelled = attribute-text h.0 k.spelled.1 (skip_is u).spelled r.spelled;
    }))))

-- ---- attributes

-- where an attribute's text begins
begins-name : {a n v : List ℕ} → AttributeText a n v → (b : ℕ) × (t : List ℕ) × (a ≡ b ∷ t) × (is_name_byte b ≡ true)
begins-name (attribute-text (name-last {b = b} h) k l r) = (b, _, refl, name-byte-read h)
begins-name (attribute-text (name-then {b = b} h n) k l r) = (b, _, refl, name-byte-read h)

skips-to : {a n v : List ℕ} → AttributeText a n v → (t : List ℕ) → skip_white (a ++ t) ≡ a ++ t
skips-to h t = let b = begins-name h in rw b.2 (skip-stays b.0 (b.1 ++ t) (name-dark b.0 b.3))

name-comes : {a n v : List ℕ} → AttributeText a n v → (t : List ℕ) → name_comes (a ++ t) ≡ true
unfolding name_comes
name-comes h t = let b = begins-name h in rw b.2 b.3

attributes-read : {a : List ℕ} {prs : List Pair} → AttributesText a prs → (f : ℕ) → length prs < f → (t : List ℕ) → attribute_comes t ≡ false → attributes_f f (a ++ t) ≡ good (map of_pair prs, t)
unfolding attributes_f attribute_comes
attributes-read attributes-end zero l t h = absurd (omega arith)
attributes-read attributes-end (suc f) l t h = rw h
attributes-read (attributes-then b k w r m) zero l t h = absurd (omega arith)
attributes-read (attributes-then {w = w} {t = a} {s = s} b k v r m) (suc f) l t h =
    rw (
      append_assoc w (a ++ s) t,
      append_assoc a s t,
      k,
      skip-white v (a ++ (s ++ t)),
      skips-to r (s ++ t),
      name-comes r (s ++ t),
      skip-white (white-then k v) (a ++ (s ++ t)),
      skips-to r (s ++ t),
      attribute-read r (s ++ t),
      attributes-read m f (omega arith) t h,
    )

attributes-few : {a : List ℕ} {prs : List Pair} → AttributesText a prs → length prs ≤ length a
attributes-few attributes-end = lit≤ tt
attributes-few (attributes-then {w = w} {t = t} {s = s} b k v r m) =
    let l = attributes-few m in
    simp (length-append) (omega arith)

-- attributes end where a tag does
no-attribute : (c : ℕ) {w : List ℕ} (t : List ℕ) → White w → is_white c ≡ false → is_name_byte c ≡ false → attribute_comes (w ++ (c ∷ t)) ≡ false
unfolding attribute_comes name_comes
no-attribute c t white-end h k = rw h
no-attribute c t (white-then e w) h k = rw (e, skip-white w (c ∷ t), skip-stays c t h, k)

all-attributes-read : {a : List ℕ} {prs : List Pair} → AttributesText a prs → (t : List ℕ) → attribute_comes t ≡ false → attributes (a ++ t) ≡ good (map of_pair prs, t)
unfolding attributes
all-attributes-read {a} h t k = attributes-read h (suc (length (a ++ t))) (simp length-append (omega (arith, attributes-few h))) t k

abbrev AreAttributes : List ℕ → List Attribute → Type 0
AreAttributes a attrs = AttributesText a (map as_pair attrs)

skip-one : (b : ℕ) (s : List ℕ) → is_white b ≡ true → skip_white (b ∷ s) ≡ skip_white s
unfolding skip_white
skip-one b s h = rw h

attribute-on : (s : List ℕ) → attribute_comes s ≡ true → (x : Attribute) (t : List ℕ) (attrs : List Attribute) (rest : List ℕ)
    → Front (λ (a : List ℕ) (x : Attribute). AttributeText a x.name x.value) (skip_white s) (x, t) → Front AreAttributes t (attrs, rest) → Front AreAttributes s (x ∷ attrs, rest)
unfolding attribute_comes
attribute-on [] c x t attrs rest h k = absurd (false≢true c)
attribute-on (b ∷ s) c x t attrs rest h k =
    let w : is_white b ≡ true = (and_both (is_white b) (name_comes (skip_white s)) c).0 in
    record {
      taken = (b ∷ (skip_is s).taken) ++ (h.taken ++ k.taken);
      whole = ap (λ (x : List ℕ). b ∷ x) ((skip_is s).whole ∙ ap (λ (x : List ℕ). (skip_is s).taken ++ x)
          (sym (skip-one b s w) ∙ h.whole ∙ ap (λ (x : List ℕ). h.taken ++ x) k.whole ∙ sym (append_assoc h.taken k.taken rest))
          ∙ sym (append_assoc (skip_is s).taken (h.taken ++ k.taken) rest));
      spelled = attributes-then b w (skip_is s).spelled h.spelled k.spelled;
    }

attributes-are : (f : ℕ) (s : List ℕ) → Holds (Front AreAttributes s) (attributes_f f s)
unfolding attributes_f
attributes-are zero s = refuses
attributes-are (suc f) s =
    holds-cond (attribute_comes s)
    (λ c. holds-bind (attribute-is (skip_white s)) (λ a h. holds-bind (attributes-are f a.1) (λ r k. holds (attribute-on s c a.0 a.1 r.0 r.1 h k))))
    (λ _. holds (record { taken = []; whole = refl; spelled = attributes-end }))

all-attributes-are : (s : List ℕ) → Holds (Front AreAttributes s) (attributes s)
unfolding attributes
all-attributes-are s = attributes-are (suc (length s)) s

-- ---- the value of a name

unfoldable optional : Option (List ℕ) → List (List ℕ)
optional None = []
optional (Some v) = v ∷ []

same_not : (s t : List ℕ) → (t ≡ s → ⊥) → same s t ≡ false
same_not s t h = go (same s t) refl
  where
    go : (b : Bool) → same s t ≡ b → same s t ≡ false
    go true e = absurd (h (sym (same-is s t e)))
    go false e = e

value-of-read : {name : List ℕ} {prs : List Pair} {o : Option (List ℕ)} → ValueOf name prs o → values_of name (map of_pair prs) ≡ optional o
unfolding values_of optional
value-of-read value_none = refl
value-of-read {name} (value-here h) = rw (same_read name, value-of-read h)
value-of-read {name} (value-skipped {n = n} h r) = rw (same_not name n h, value-of-read r)

at-most-one-read : (o : Option (List ℕ)) → at_most_one (optional o) ≡ good o
unfolding at_most_one optional
at-most-one-read None = refl
at-most-one-read (Some v) = refl

exactly-one-read : (v : List ℕ) → exactly_one (optional (Some v)) ≡ good v
unfolding exactly_one optional
exactly-one-read v = refl

nil-cons : (v : List ℕ) (vs : List (List ℕ)) → (v ∷ vs) ≡ [] → ⊥
nil-cons v vs e = let q : ◌≡◌ {A = ℕ} (suc (length vs)) 0 = ap length e in omega arith

value-of-is : (name : List ℕ) (attrs : List Attribute) (o : Option (List ℕ)) → values_of name attrs ≡ optional o → ValueOf name (map as_pair attrs) o
unfolding values_of
value-of-is name [] None e = value_none
value-of-is name [] (Some v) e = unfold optional in absurd (nil-cons v [] (sym e))
value-of-is name (a ∷ attrs) o e = go (same name a.name) refl o e (value-of-is name attrs)
  where
    go : (b : Bool) → same name a.name ≡ b → (o : Option (List ℕ)) → cond b (a.value ∷ values_of name attrs) (values_of name attrs) ≡ optional o
        → ((o : Option (List ℕ)) → values_of name attrs ≡ optional o → ValueOf name (map as_pair attrs) o) → ValueOf name (map as_pair (a ∷ attrs)) o
    go true h None e ih = unfold optional in absurd (nil-cons a.value (values_of name attrs) e)
    go true h (Some v) e ih = unfold optional in
        let k : a.value ≡ v = cc e in
        let l : values_of name attrs ≡ [] = cc e in
        subst₂ (λ (n v : List ℕ). ValueOf name ((n, a.value) ∷ map as_pair attrs) (Some v)) (same-is name a.name h) k (value-here (ih None l))
    go false h o e ih = value-skipped {n = a.name} (λ q. false≢true (sym h ∙ rw q (same_read name))) (ih o e)

at-most-one-is : (name : List ℕ) (attrs : List Attribute) → Holds (ValueOf name (map as_pair attrs)) (at_most_one (values_of name attrs))
at-most-one-is name attrs = go (values_of name attrs) (value-of-is name attrs)
  where
    go : (vs : List (List ℕ)) → ((o : Option (List ℕ)) → vs ≡ optional o → ValueOf name (map as_pair attrs) o) → Holds (ValueOf name (map as_pair attrs)) (at_most_one vs)
    go [] f = unfold at_most_one optional in holds (f None refl)
    go (v ∷ []) f = unfold at_most_one optional in holds (f (Some v) refl)
    go (v ∷ w ∷ vs) f = unfold at_most_one in refuses

exactly-one-is : (name : List ℕ) (attrs : List Attribute) → Holds (λ (v : List ℕ). ValueOf name (map as_pair attrs) (Some v)) (exactly_one (values_of name attrs))
exactly-one-is name attrs = go (values_of name attrs) (value-of-is name attrs)
  where
    go : (vs : List (List ℕ)) → ((o : Option (List ℕ)) → vs ≡ optional o → ValueOf name (map as_pair attrs) o) → Holds (λ (v : List ℕ). ValueOf name (map as_pair attrs) (Some v)) (exactly_one vs)
    go [] f = unfold exactly_one in refuses
    go (v ∷ []) f = unfold exactly_one optional in holds (f (Some v) refl)
    go (v ∷ w ∷ vs) f = unfold exactly_one in refuses

-- ---- VALUES

slash-name : is_name_byte 47 ≡ false
unfolding is_name_byte between
slash-name = refl

greater-name : is_name_byte 62 ≡ false
unfolding is_name_byte between
greater-name = refl

abbrev values-rest : List ℕ → Result ℕ (Option (List ℕ) × List ℕ)
values-rest t = attributes t >>= λ a. ends 1 (bytes "/>") a.1 >>= λ rest. at_most_one (values_of (bytes "null") a.0) >>= λ v. good (v, rest)

values-opens : {w : List ℕ} → White w → (t : List ℕ) → read_values (w ++ (bytes "<VALUES" ++ t)) ≡ values-rest t
unfolding read_values
values-opens w t = rw (ends-word 1 60 (86 ∷ 65 ∷ 76 ∷ 85 ∷ 69 ∷ 83 ∷ []) t (no-white 60 (lit≤ tt)) w)

values-read : {w t : List ℕ} {o : Option (List ℕ)} → White w → ValuesTag t o → (rest : List ℕ) → read_values (w ++ (t ++ rest)) ≡ good (o, rest)
values-read {o = o} h (values-tag {a = a} {w = w} r v k) rest =
    values-opens h ((a ++ (w ++ (47 ∷ 62 ∷ []))) ++ rest)
    ∙ rw (
      append_assoc a (w ++ (47 ∷ 62 ∷ [])) rest,
      append_assoc w (47 ∷ 62 ∷ []) rest,
      all-attributes-read r (w ++ (47 ∷ 62 ∷ rest)) (no-attribute 47 (62 ∷ rest) k (no-white 47 (lit≤ tt)) slash-name),
      ends-word 1 47 (62 ∷ []) rest (no-white 47 (lit≤ tt)) k,
      value-of-read v,
      at-most-one-read o,
    )

values-is : (s : List ℕ) → Holds (Indented ValuesTag s) (read_values s)
unfolding read_values
values-is s =
    holds-bind (ends_is 1 (bytes "<VALUES") s) (λ t h.
    holds-bind (all-attributes-are t) (λ a k.
    holds-bind (ends_is 1 (bytes "/>") a.1) (λ rest r.
    holds-bind (at-most-one-is (bytes "null") a.0) (λ o v. holds (record {
      white = h.spelled.0;
      is_white = h.spelled.1;
      taken = bytes "<VALUES" ++ (k.taken ++ (r.spelled.0 ++ bytes "/>"));
      whole = h.whole ∙ ap (λ (x : List ℕ). x ++ t) h.spelled.2 ∙ append_assoc h.spelled.0 (bytes "<VALUES") t
          ∙ ap (λ (x : List ℕ). h.spelled.0 ++ (bytes "<VALUES" ++ x)) (k.whole ∙ ap (λ (x : List ℕ). k.taken ++ x) (r.whole ∙ ap (λ (x : List ℕ). x ++ rest) r.spelled.2)
          ∙ sym (append_assoc k.taken (r.spelled.0 ++ bytes "/>") rest));
      spelled = values-tag k.spelled v r.spelled.1;
    })))))

-- ---- FIELD

abbrev end-tag : List ℕ → Result ℕ (List ℕ)
end-tag t = ends 1 (bytes "</FIELD") t >>= λ u. ends 1 (bytes ">") u

end-tag-read : {u z : List ℕ} → White u → Tag (bytes "</FIELD") (bytes ">") z → (rest : List ℕ) → end-tag (u ++ (z ++ rest)) ≡ good rest
end-tag-read h (a-tag {w = w} k) rest =
    rw (
      append_assoc w (62 ∷ []) rest,
      ends-word 1 60 (47 ∷ 70 ∷ 73 ∷ 69 ∷ 76 ∷ 68 ∷ []) (w ++ (62 ∷ rest)) (no-white 60 (lit≤ tt)) h,
      ends-word 1 62 [] rest (no-white 62 (lit≤ tt)) k,
    )

abbrev Ended : List ℕ → List ℕ → Type 0
Ended s rest = (u : List ℕ) × (z : List ℕ) × White u × Tag (bytes "</FIELD") (bytes ">") z × (s ≡ u ++ (z ++ rest))

end-tag-is : (s : List ℕ) → Holds (Ended s) (end-tag s)
end-tag-is s =
    holds-bind (ends_is 1 (bytes "</FIELD") s) (λ t h.
    holds-weaken (ends_is 1 (bytes ">") t) (λ rest k. (
      h.spelled.0,
      bytes "</FIELD" ++ (k.spelled.0 ++ bytes ">"),
      h.spelled.1,
      a-tag k.spelled.1,
      h.whole ∙ ap (λ (x : List ℕ). x ++ t) h.spelled.2 ∙ append_assoc h.spelled.0 (bytes "</FIELD") t
          ∙ ap (λ (x : List ℕ). h.spelled.0 ++ (bytes "</FIELD" ++ x)) (k.whole ∙ ap (λ (x : List ℕ). x ++ rest) k.spelled.2),
    )))

no-values : {w z : List ℕ} → White w → Tag (bytes "</FIELD") (bytes ">") z → (rest : List ℕ) → ends 1 (bytes "<VALUES") (w ++ (z ++ rest)) ≡ bad 1
unfolding ends after
no-values h (a-tag k) rest = rw (skip-white h, skip-stays 60 _ (no-white 60 (lit≤ tt)))

some-values : {w t : List ℕ} {o : Option (List ℕ)} → White w → ValuesTag t o → (rest : List ℕ) → (u : List ℕ) × (ends 1 (bytes "<VALUES") (w ++ (t ++ rest)) ≡ good u)
some-values h (values-tag r v k) rest = (_, ends-word 1 60 (86 ∷ 65 ∷ 76 ∷ 85 ∷ 69 ∷ 83 ∷ []) _ (no-white 60 (lit≤ tt)) h)

abbrev ended : Option (List ℕ) × List ℕ → Result ℕ (Option (List ℕ) × List ℕ)
ended v = end-tag v.1 >>= λ rest. good (v.0, rest)

body-split : (s : List ℕ) → field_body s ≡ (begins (ends 1 (bytes "<VALUES") s) (read_values s) (good (None, s)) >>= ended)
unfolding field_body tag ends
body-split s = refl

body-read : {b z : List ℕ} {o : Option (List ℕ)} → Inside b o → Tag (bytes "</FIELD") (bytes ">") z → (rest : List ℕ) → field_body (b ++ (z ++ rest)) ≡ good (o, rest)
unfolding begins
body-read {z = z} (inside-nothing {w = w} h) k rest = body-split (w ++ (z ++ rest)) ∙ rw (no-values h k rest, end-tag-read h k rest)
body-read {z = z} (inside-values {w = w} {t = t} {u = u} h v l) k rest =
    body-split ((w ++ (t ++ u)) ++ (z ++ rest))
    ∙ rw (append_assoc w (t ++ u) (z ++ rest), append_assoc t u (z ++ rest), (some-values h v (u ++ (z ++ rest))).1, values-read h v (u ++ (z ++ rest)), end-tag-read l k rest)

abbrev IsBody : List ℕ → Option (List ℕ) × List ℕ → Type 0
IsBody s p = (b : List ℕ) × (z : List ℕ) × Inside b p.0 × Tag (bytes "</FIELD") (bytes ">") z × (s ≡ b ++ (z ++ p.1))

body_is : (s : List ℕ) → Holds (IsBody s) (field_body s)
body_is s = subst⁻¹ (Holds (IsBody s)) (body-split s) (go (ends 1 (bytes "<VALUES") s))
  where
    with_values : Holds (IsBody s) (read_values s >>= ended)
    with_values =
        holds-bind (values-is s) (λ v h. holds-bind (end-tag-is v.1) (λ rest k. holds (
          h.white ++ (h.taken ++ k.0),
          k.1,
          inside-values h.is_white h.spelled k.2,
          k.3,
          h.whole ∙ ap (λ (x : List ℕ). h.white ++ (h.taken ++ x)) k.4 ∙ ap (λ (x : List ℕ). h.white ++ x) (sym (append_assoc h.taken k.0 (k.1 ++ rest)))
              ∙ sym (append_assoc h.white (h.taken ++ k.0) (k.1 ++ rest)),
        )))

    without : Holds (IsBody s) (end-tag s >>= λ rest. good (None, rest))
    without = holds-bind (end-tag-is s) (λ rest k. holds (k.0, k.1, inside-nothing k.2, k.3, k.4))

    go : (r : Result ℕ (List ℕ)) → Holds (IsBody s) (begins r (read_values s) (good (None, s)) >>= ended)
    go (good u) = unfold begins in with_values
    go (bad n) = unfold begins in without

abbrev closing : List ℕ → Result ℕ (Option (List ℕ) × List ℕ)
closing u = or_else (ends 1 (bytes "/>") u >>= λ rest. good (None, rest)) (ends 1 (bytes ">") u >>= λ v. field_body v)

abbrev pub field_as : List ℕ → Option (List ℕ) → Option (List ℕ) → List ℕ → Field
field_as d a o rest = record { datatype = d; arraysize = a; null = o; rest = rest }

field-rest-read : (a u rest d : List ℕ) {prs : List Pair} {l o : Option (List ℕ)} → AttributesText a prs → attribute_comes u ≡ false → closing u ≡ good (o, rest)
    → ValueOf (bytes "datatype") prs (Some d) → ValueOf (bytes "arraysize") prs l → read_field (bytes "<FIELD" ++ (a ++ u)) ≡ good (field_as d l o rest)
unfolding read_field after
field-rest-read a u rest d {l = l} h c e x y = rw (all-attributes-read h u c, e, value-of-read x, exactly-one-read d, value-of-read y, at-most-one-read l)

pub field-read : {t d : List ℕ} {prs : List Pair} {o l : Option (List ℕ)} → FieldText t prs o → ValueOf (bytes "datatype") prs (Some d) → ValueOf (bytes "arraysize") prs l → (rest : List ℕ)
    → read_field (t ++ rest) ≡ good (field_as d l o rest)
field-read {d = d} (field-empty {a = a} {w = w} h k) x y rest =
    ap (λ (s : List ℕ). read_field (bytes "<FIELD" ++ s)) (append_assoc a (w ++ (47 ∷ 62 ∷ [])) rest ∙ ap (λ (s : List ℕ). a ++ s) (append_assoc w (47 ∷ 62 ∷ []) rest))
    ∙ field-rest-read a (w ++ (47 ∷ 62 ∷ rest)) rest d h (no-attribute 47 (62 ∷ rest) k (no-white 47 (lit≤ tt)) slash-name)
    (rw (ends-word 1 47 (62 ∷ []) rest (no-white 47 (lit≤ tt)) k)) x y
field-read {d = d} (field-tags {a = a} {w = w} {b = b} {z = z} h k i e) x y rest =
    ap (λ (s : List ℕ). read_field (bytes "<FIELD" ++ s))
    (append_assoc a (w ++ (62 ∷ (b ++ z))) rest ∙ ap (λ (s : List ℕ). a ++ s) (append_assoc w (62 ∷ (b ++ z)) rest ∙ ap (λ (s : List ℕ). w ++ (62 ∷ s)) (append_assoc b z rest)))
    ∙ field-rest-read a (w ++ (62 ∷ (b ++ (z ++ rest)))) rest d h (no-attribute 62 (b ++ (z ++ rest)) k (no-white 62 (lit≤ tt)) greater-name)
    (rw (ends-other 1 47 62 (62 ∷ []) (b ++ (z ++ rest)) (no-white 62 (lit≤ tt)) refl k, ends-word 1 62 [] (b ++ (z ++ rest)) (no-white 62 (lit≤ tt)) k) (body-read i e rest)) x y

-- how a FIELD's tags end, after its attributes
abbrev Closes : List ℕ → Option (List ℕ) × List ℕ → Type 0
Closes u p = (t : List ℕ) × (u ≡ t ++ p.1) × ((a : List ℕ) (prs : List Pair) → AttributesText a prs → FieldText (bytes "<FIELD" ++ (a ++ t)) prs p.0)

closing-is : (u : List ℕ) → Holds (Closes u) (closing u)
closing-is u =
    holds-else
    (holds-bind (ends_is 1 (bytes "/>") u) (λ rest k. holds (
      k.spelled.0 ++ bytes "/>",
      k.whole ∙ ap (λ (x : List ℕ). x ++ rest) k.spelled.2,
      (λ a prs h. field-empty h k.spelled.1),
    )))
    (holds-bind (ends_is 1 (bytes ">") u) (λ v k. holds-weaken (body_is v) (λ p b. (
      k.spelled.0 ++ (bytes ">" ++ (b.0 ++ b.1)),
      k.whole ∙ ap (λ (x : List ℕ). x ++ v) k.spelled.2 ∙ append_assoc k.spelled.0 (bytes ">") v
          ∙ ap (λ (x : List ℕ). k.spelled.0 ++ (bytes ">" ++ x)) (b.4 ∙ sym (append_assoc b.0 b.1 p.1)) ∙ sym (append_assoc k.spelled.0 (bytes ">" ++ (b.0 ++ b.1)) p.1),
      (λ a prs h. field-tags h k.spelled.1 b.2 b.3),
    ))))

-- a FIELD as the grammar sees it
abbrev pub IsField : List ℕ → Field → Type 0
IsField s f = (t : List ℕ) × (prs : List Pair) × (s ≡ t ++ f.rest) × FieldText t prs f.null × ValueOf (bytes "datatype") prs (Some f.datatype) × ValueOf (bytes "arraysize") prs f.arraysize

pub field_is : (s : List ℕ) → Holds (IsField s) (read_field s)
unfolding read_field
field_is s =
    holds-bind (after_is 1 (bytes "<FIELD") s) (λ t e.
    holds-bind (all-attributes-are t) (λ a h.
    holds-bind (closing-is a.1) (λ p c.
    holds-bind (exactly-one-is (bytes "datatype") a.0) (λ d x.
    holds-bind (at-most-one-is (bytes "arraysize") a.0) (λ l y. holds (
      bytes "<FIELD" ++ (h.taken ++ c.0),
      map as_pair a.0,
      e ∙ ap (λ (x : List ℕ). bytes "<FIELD" ++ x) (h.whole ∙ ap (λ (x : List ℕ). h.taken ++ x) c.1 ∙ sym (append_assoc h.taken c.0 p.1)),
      c.2 h.taken (map as_pair a.0) h.spelled,
      x,
      y,
    ))))))
