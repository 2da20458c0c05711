-- Declarations are refused exactly: with which number and at which place. What is refused is followed along the reader: a stage that gives no
-- value has none in the grammar, by its completeness, and one that the grammar has nothing for gives none, by its soundness.
use Rattle.std.specs.Prelude.{Option, None}
use Prim.Native.Nat.{◌+◌, ◌<◌, ◌≤◌, suc, zero, ℕ}
use native.Mathlib.Numerals.{add-one}
use native.Mathlib.Omega.{arith}
use mathlib.Core.Bool.{Bool, cond}
use mathlib.Core.List.{List, [], ◌++◌, ◌∷◌}
use mathlib.Core.Logic.{◌↔◌}
use mathlib.Core.Path.{◌∙◌, ◌≡◌, ap, refl, subst, subst⁻¹, sym}
use lib.Dec.{eqb, lit≤, ltb}
use lib.ListN.{length}
use borrow.Author.Tests.{eqb-false, eqb-true, le-ltb, lt-ltb, ltb-false, ltb-true, ne_eqb}
use Rattle.fields.proofs.Refusals.{field-fails, kind-fails, len-fails, null-fails}
use Rattle.fields.specs.Fields.{Field, declare, fields_f, fields_then, judge, kinds, read_field}
use Rattle.grammar.proofs.ColumnsRead.{arraysize-is, arraysize-read, datatype-is, datatype-read, judge-is, judge-read, null_is, null-read, starts}
use Rattle.grammar.proofs.DeclarationsRead.{IsField, field_is, field-read, field_as}
use Rattle.grammar.proofs.Fronts.{fails-then, fails-told, refused, skip_all, skip_is, skip-stays, skip-white, white-only}
use Rattle.grammar.specs.DeclarationRefusals.{ColumnAt, FieldAt, NoColumn, NoColumns, NotDeclared, at-column, column-then, declarations-too-long, no-column}
use Rattle.grammar.specs.DeclarationRefusals.{no_kind, no_length, no-null, no-shape, not-declared, one-too-many}
use Rattle.grammar.specs.Declarations.{FieldOf, field_of}
use Rattle.grammar.specs.Words.{White}
use Rattle.table.proofs.Laws.{bad-good, cond_cases, fails-as, fails-at, fails-bind, fails-weaken, holds_as, holds-weaken, no-white}
use Rattle.table.specs.Bytes.{after, skip_white}
use Rattle.table.specs.Cell.{column_of, is_scalar}
use Rattle.table.specs.Outcome.{Refusal, at, most_declarations}
use Rattle.table.specs.Result.{Fails, Result, ◌>>=◌, bad, fails, gives, good, refused_as}
use Rattle.table.specs.Shape.{shape}
use Rattle.table.specs.declared.Column.{Column}

-- ---- a FIELD

field-skipped : {s d : List ℕ} {a o : Option (List ℕ)} {rest : List ℕ} (h : FieldAt s d a o rest) → skip_white s ≡ h.taken ++ rest
field-skipped {rest = rest} h =
    let u = starts h.field in
    ap skip_white h.whole ∙ skip-white h.is_white (h.taken ++ rest)
    ∙ rw u.1 (skip-stays 60 (u.0 ++ rest) (no-white 60 (lit≤ tt)))

field-at-read : {s d : List ℕ} {a o : Option (List ℕ)} {rest : List ℕ} → FieldAt s d a o rest → read_field (skip_white s) ≡ good (field_as d a o rest)
field-at-read {rest = rest} h = ap read_field (field-skipped h) ∙ field-read h.field h.has-datatype h.has-arraysize rest

abbrev AsField : List ℕ → Field → Type 0
AsField s f = FieldAt s f.datatype f.arraysize f.null f.rest

field-at-is : (s : List ℕ) (f : Field) → IsField (skip_white s) f → AsField s f
field-at-is s f i = record {
  white = (skip_is s).taken;
  taken = i.0;
  attributes = i.1;
  is_white = (skip_is s).spelled;
  whole = (skip_is s).whole ∙ ap (λ (x : List ℕ). (skip_is s).taken ++ x) i.2;
  field = i.3;
  has-datatype = i.4;
  has-arraysize = i.5;
}

-- ---- its column

judge-refused : (s : List ℕ) (f : Field) → AsField s f → Fails (NoColumn s) (judge f)
unfolding judge
judge-refused s f h =
    fails-then (fails-told (kind-fails (λ q. no_kind h (λ k x. bad-good (sym q ∙ datatype-read x))) kinds f.datatype)) (datatype-is f.datatype) (λ k x.
    fails-then (fails-told (len-fails (λ q. no_length h x (λ l y. bad-good (sym q ∙ arraysize-read y))) f.arraysize)) (arraysize-is f.arraysize) (λ l y.
    let scalar : Bool = is_scalar (column_of k l None) in
    fails-bind (fails-told (null-fails (λ q. no-null h x y (λ n z. bad-good (sym q ∙ null-read z))) (shape k) scalar f.null)) (λ n. gives)))

-- ---- the list

-- a refusal at a text behind k columns
abbrev Behind : ℕ → List ℕ → Refusal → Type 0
Behind k s e = NoColumns k s e.number e.column

column-at : (s : List ℕ) (f : Field) {c : Column} → (t : List ℕ) × FieldOf t c × (skip_white s ≡ t ++ f.rest) → ColumnAt s c f.rest
column-at s f g = record {
  white = (skip_is s).taken;
  taken = g.0;
  is_white = (skip_is s).spelled;
  whole = (skip_is s).whole ∙ ap (λ (x : List ℕ). (skip_is s).taken ++ x) g.2;
  field = g.1;
}

then-refused : (k : ℕ) (s t : List ℕ) (more : List ℕ → Result Refusal (List Column)) → k ≤ 64 → skip_white s ≡ t
    → ((u : List ℕ) → k + 1 ≤ 64 → Fails (Behind (k + 1) u) (more u)) → Fails (Behind k s) (fields_then k t more)
unfolding fields_then at
then-refused k s [] more h e ih =
    cond_cases (Fails (Behind k s)) (eqb k 0) (bad (at 0 5)) (good [])
    (λ z. fails (subst⁻¹ (λ (x : ℕ). NoColumns x s 5 0) (eqb-true k 0 z) (no-column (white-only s e)))) (λ _. gives)
then-refused k s (b ∷ v) more h e ih =
    fails-then (fails-as (at k) shape-refused refused-here) (holds_as (at k) (field_is (b ∷ v))) (λ f i.
    let here : IsField (skip_white s) f = subst⁻¹ (λ (x : List ℕ). IsField x f) e i in
    fails-then (fails-as (at k) (judge-refused s f (field-at-is s f here)) refused-here) (holds_as (at k) (judge-is (skip_white s) f here)) (λ c g.
    cond_cases (Fails (Behind k s)) (eqb k 64) (bad (at 64 5)) (more f.rest >>= λ cs. good (c ∷ cs))
    (λ z. fails (subst⁻¹ (λ (x : ℕ). NoColumns x s 5 64) (eqb-true k 64 z) (one-too-many (column-at s f g))))
    (λ z. let few : k < 64 = omega (arith, eqb-false k 64 z) in
    fails-bind (fails-weaken (ih f.rest (omega arith)) (λ x p. column-then few (column-at s f g) (subst (λ (m : ℕ). Behind m f.rest x) (omega arith) p))) (λ cs. gives))))
  where
    refused-here : (n : ℕ) → NoColumn s n → NoColumns k s n k
    refused-here n p = at-column {k = k} (omega arith) p

    not_white : White s → ⊥
    not_white w = let q : ◌≡◌ {A = ℕ} 0 (suc (length v)) = ap length (sym (skip_all w) ∙ e) in omega arith

    shape-refused : Fails (NoColumn s) (read_field (b ∷ v))
    shape-refused = fails-told (field-fails (λ q. no-shape not_white (λ d a o rest i. bad-good (sym q ∙ ap read_field (sym e) ∙ field-at-read i))) (b ∷ v))

fields-refused : (f k : ℕ) (s : List ℕ) → f + k ≡ 66 → k ≤ 64 → Fails (Behind k s) (fields_f f k s)
unfolding fields_f
fields-refused zero k s e h = absurd (omega arith)
fields-refused (suc f) k s e h =
    then-refused k s (skip_white s) (λ t. fields_f f (k + 1) t) h refl (λ t l. fields-refused f (k + 1) t (omega arith) l)

pub not-declared-is : (s : List ℕ) → Fails (λ (e : Refusal). NotDeclared s e.number e.column) (declare s)
unfolding declare most_declarations at
not-declared-is s =
    cond_cases (Fails (λ (e : Refusal). NotDeclared s e.number e.column)) (ltb 65536 (length s)) (bad (at 0 6)) (fields_f 66 0 s)
    (λ h. fails (declarations-too-long (ltb-true 65536 (length s) h)))
    (λ h. fails-weaken (fields-refused 66 0 s refl (lit≤ tt)) (λ e n. not-declared (ltb-false 65536 (length s) h) n))

-- ---- what the grammar has is refused so

-- a FIELD of the right shape is judged
then-judged : (k : ℕ) (t : List ℕ) (f : Field) (more : List ℕ → Result Refusal (List Column)) → read_field t ≡ good f
    → fields_then k t more ≡ (refused_as (at k) (judge f) >>= λ c. cond (eqb k 64) (bad (at 64 5)) (more f.rest >>= λ cs. good (c ∷ cs)))
unfolding fields_then read_field after
then-judged k [] f more h = absurd (bad-good h)
then-judged k (b ∷ v) f more h = rw h

no-column-read : (k : ℕ) (s : List ℕ) {n : ℕ} (more : List ℕ → Result Refusal (List Column)) → NoColumn s n → fields_then k (skip_white s) more ≡ bad (at k n)
unfolding judge
no-column-read k s more (no-shape w none) = go (skip_white s) refl
  where
    no_field : read_field (skip_white s) ≡ bad 1
    no_field = refused (field-fails refl (skip_white s)) (holds-weaken (field_is (skip_white s)) (λ f i. none _ _ _ _ (field-at-is s f i)))

    go : (t : List ℕ) → skip_white s ≡ t → fields_then k t more ≡ bad (at k 1)
    go [] e = absurd (w (white-only s e))
    go (b ∷ v) e = unfold fields_then in rw (sym (ap read_field e) ∙ no_field)
no-column-read k s more (no_kind {d = d} {a = a} {o = o} {rest = rest} h none) =
    rw (then-judged k (skip_white s) (field_as d a o rest) more (field-at-read h), refused (kind-fails refl kinds d) (holds-weaken (datatype-is d) none))
no-column-read k s more (no_length {d = d} {a = a} {o = o} {rest = rest} h x none) =
    rw (then-judged k (skip_white s) (field_as d a o rest) more (field-at-read h), datatype-read x, refused (len-fails refl a) (holds-weaken (arraysize-is a) none))
no-column-read k s more (no-null {d = d} {a = a} {o = o} {rest = rest} {k = q} {l = l} h x y none) =
    let scalar : Bool = is_scalar (column_of q l None) in
    rw (
      then-judged k (skip_white s) (field_as d a o rest) more (field-at-read h),
      datatype-read x,
      arraysize-read y,
      refused (null-fails refl (shape q) scalar o) (holds-weaken (null_is (shape q) scalar o) none),
    )

-- a column that is declared there is read, and then the rest
column-read : (k : ℕ) {s rest : List ℕ} {c : Column} (more : List ℕ → Result Refusal (List Column)) → ColumnAt s c rest
    → fields_then k (skip_white s) more ≡ cond (eqb k 64) (bad (at 64 5)) (more rest >>= λ cs. good (c ∷ cs))
column-read k {s} {rest} more h = go h.field
  where
    go : {c : Column} → FieldOf h.taken c → fields_then k (skip_white s) more ≡ cond (eqb k 64) (bad (at 64 5)) (more rest >>= λ cs. good (c ∷ cs))
    go (field_of {d = d} {attrs = attrs} {o = o} {a = a} t x i y j z) =
        let field : FieldAt s d a o rest = record {
          white = h.white;
          taken = h.taken;
          attributes = attrs;
          is_white = h.is_white;
          whole = h.whole;
          field = t;
          has-datatype = x;
          has-arraysize = y;
        } in
        rw (then-judged k (skip_white s) (field_as d a o rest) more (field-at-read field), judge-read i j z rest)

columns-read : {k n place : ℕ} {s : List ℕ} → NoColumns k s n place → (f : ℕ) → f + k ≡ 66 → fields_f f k s ≡ bad (at place n)
unfolding fields_f fields_then
columns-read (no-column h) zero e = absurd (omega arith)
columns-read (no-column h) (suc f) e = rw (skip_all h)
columns-read (at-column l h) zero e = absurd (omega arith)
columns-read (at-column {k = k} {s = s} l h) (suc f) e = no-column-read k s (λ t. fields_f f (k + 1) t) h
columns-read (one-too-many h) zero e = absurd (omega arith)
columns-read (one-too-many h) (suc f) e = column-read 64 (λ t. fields_f f (64 + 1) t) h
columns-read (column-then l h r) zero e = absurd (omega arith)
columns-read (column-then {k = k} {rest = rest} l h r) (suc f) e =
    column-read k (λ t. fields_f f (k + 1) t) h ∙ rw (ne_eqb k 64 (λ q. omega (arith, l, q)), add-one, columns-read r f (omega arith))

pub not-declared-read : {s : List ℕ} {n place : ℕ} → NotDeclared s n place → declare s ≡ bad (at place n)
unfolding declare most_declarations
not-declared-read {s} (declarations-too-long h) = rw (lt-ltb 65536 (length s) h)
not-declared-read {s} (not-declared l h) = rw (le-ltb 65536 (length s) l) (columns-read h 66 refl)

-- THE DECLARATIONS' REFUSALS: a text is refused with a number at a place exactly when the grammar says so
pub not-declared-exactly : (s : List ℕ) (n place : ℕ) → NotDeclared s n place ↔ (declare s ≡ bad (at place n))
unfolding at
not-declared-exactly s n place = (not-declared-read, fails-at (not-declared-is s))
