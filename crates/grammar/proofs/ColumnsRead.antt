-- Declarations are read exactly, from a FIELD to its column, and the list of columns: `declares-exactly`.
use Rattle.std.specs.Prelude.{Option, None, Some, ℤ}
use Prim.Native.Nat.{◌+◌, ◌-◌, ◌<◌, ◌≤◌, suc, zero, ℕ}
use native.Mathlib.Decide.{dec_le}
use native.Mathlib.Nat.{zero-add, zero-mul}
use native.Mathlib.Omega.{arith}
use mathlib.Core.Bool.{Bool, ◌&&◌, true}
use mathlib.Core.List.{List, [], ◌++◌, ◌∷◌, append-nil}
use mathlib.Core.Logic.{◌↔◌}
use mathlib.Core.Path.{◌∙◌, ◌≡◌, ap, refl, subst⁻¹, sym}
use lib.Dec.{eqb, leb, lit≤, ltb}
use lib.ListN.{length}
use borrow.Author.Tests.{eqb-true, le-leb, le-ltb, leb-true, ltb-false, ne_eqb}
use Rattle.fields.proofs.Laws.{declare-is}
use Rattle.fields.specs.Fields.{Field, before_star, bounded_len, declare, fields_f, fields_then, judge, kind_of, kinds, len_before, len_of, length_of, null_of, null_value, read_field}
use Rattle.grammar.proofs.DeclarationsRead.{IsField, Pair, field_is, field-read, field_as}
use Rattle.grammar.proofs.Fronts.{digit-is, digit-read, numeral-all, numeral-from, numeral-read, skip_all, skip_is, skip-stays, skip-white}
use Rattle.grammar.proofs.WordsRead.{OneWord, integer-is, integer-read, integer-word, no_word, one_word, one-word-of, two-words, words-trimmed}
use Rattle.grammar.specs.Declarations.{Arraysize, Datatype, Declares, FieldOf, FieldText, FieldsText, NullText, SizeText, datatype-bit, datatype-boolean}
use Rattle.grammar.specs.Declarations.{datatype-char, datatype-int, datatype-long, datatype-short, datatype-unsigned_byte, field-empty, field_of}
use Rattle.grammar.specs.Declarations.{field-tags, fields-end, fields-then, null-absent, null-array, null-bits, null-chars, null-counts, null-truths}
use Rattle.grammar.specs.Declarations.{size-absent, size-bounded, size-fixed, size-free, size-text}
use Rattle.grammar.specs.Words.{Digit, White, figure, one-digit, trimmed}
use Rattle.number.specs.Number.{digit, numeral}
use Rattle.table.proofs.Bytes.{same-is}
use Rattle.table.proofs.Laws.{and_both, between_is, between-yes, cond_cases, holds_as, holds_at, holds-bind, holds-cond, holds-weaken, no-white}
use Rattle.table.specs.All.{All}
use Rattle.table.specs.Bytes.{between, bytes, same, skip_white}
use Rattle.table.specs.Cell.{AreColumns, column_of, is_scalar, most_elements}
use Rattle.table.specs.Outcome.{Refusal, at, most_declarations}
use Rattle.table.specs.Result.{Holds, Result, good, holds, refuses}
use Rattle.table.specs.Shape.{Bits, Shape, Text, Truths, Whole, Width, last, shape}
use Rattle.table.specs.declared.Column.{Column}
use Rattle.table.specs.declared.Kind.{Kind}
use Rattle.table.specs.declared.Len.{Len}
use Rattle.table.specs.declared.Len.TheVariants.{Bounded, Free}

-- ---- datatype

pub datatype-read : {d : List ℕ} {k : Kind} → Datatype d k → kind_of kinds d ≡ good k
unfolding kind_of kinds same
datatype-read datatype-boolean = refl
datatype-read datatype-bit = refl
datatype-read datatype-unsigned_byte = refl
datatype-read datatype-short = refl
datatype-read datatype-int = refl
datatype-read datatype-long = refl
datatype-read datatype-char = refl

pub datatype-is : (d : List ℕ) → Holds (Datatype d) (kind_of kinds d)
unfolding kind_of kinds
datatype-is d =
    holds-cond (same (bytes "boolean") d) (λ h. holds (rw (← same-is _ _ h) datatype-boolean)) (λ _.
    holds-cond (same (bytes "bit") d) (λ h. holds (rw (← same-is _ _ h) datatype-bit)) (λ _.
    holds-cond (same (bytes "unsignedByte") d) (λ h. holds (rw (← same-is _ _ h) datatype-unsigned_byte)) (λ _.
    holds-cond (same (bytes "short") d) (λ h. holds (rw (← same-is _ _ h) datatype-short)) (λ _.
    holds-cond (same (bytes "int") d) (λ h. holds (rw (← same-is _ _ h) datatype-int)) (λ _.
    holds-cond (same (bytes "long") d) (λ h. holds (rw (← same-is _ _ h) datatype-long)) (λ _.
    holds-cond (same (bytes "char") d) (λ h. holds (rw (← same-is _ _ h) datatype-char)) (λ _. refuses)))))))

-- ---- arraysize

digit-between : (b d : ℕ) → Digit b d → (48 ≤ b) × (b ≤ 57)
digit-between b n (figure h) = (omega arith, omega arith)

size-read : {s : List ℕ} {n : ℕ} → SizeText s n → length_of s ≡ good n
unfolding length_of
size-read {n = n} (size-text {b = b} {s = s} m z l h) =
    let k : (48 ≤ b) × (b ≤ 57) = (numeral-all (λ (b : ℕ). (48 ≤ b) × (b ≤ 57)) digit-between m).0 in
    let q : 49 ≤ b = one_up b k.0 z in
    rw (between-yes 49 57 b q k.1, le-leb (length s) 3 (omega arith), first-digit b s n q k.1 (numeral-read digit Digit 10 digit-read digit-is m), le-leb n most_elements (omega arith))
  where
    one_up : (b : ℕ) → 48 ≤ b → (b ≡ 48 → ⊥) → 49 ≤ b
    one_up b h z = elim (dec_le 49 b) [ yes k ↦ k | no k ↦ absurd (z (omega arith)) ]

    first-digit : (b : ℕ) (s : List ℕ) (n : ℕ) → 49 ≤ b → b ≤ 57 → numeral digit 10 0 (b ∷ s) ≡ good n → numeral digit 10 (b - 48) s ≡ good n
    first-digit b s n h k e = unfold numeral digit in rw (between-yes 48 57 b (omega arith) k, zero-mul, zero-add) at e

size_is : (s : List ℕ) → Holds (SizeText s) (length_of s)
unfolding length_of
size_is [] = refuses
size_is (b ∷ s) =
    holds-cond (between 49 57 b && leb (length s) 3) (λ h.
    let k = and_both (between 49 57 b) (leb (length s) 3) h in
    let i = between_is 49 57 b k.0 in
    holds-bind (holds_as (λ f. 3) (numeral-from digit Digit 10 digit-read digit-is (b ∷ []) (b - 48) (one-digit (holds_at (digit-is b) (digit_at b i))) s)) (λ n m.
    holds-cond (leb n most_elements)
    (λ l. holds (size-text m (λ e. omega (arith, i.0, e)) (omega (arith, leb-true (length s) 3 k.1)) (omega (arith, leb-true n most_elements l)))) (λ _. refuses)))
    (λ _. refuses)
  where
    digit_at : (b : ℕ) → (49 ≤ b) × (b ≤ 57) → digit b ≡ good (b - 48)
    digit_at b i = unfold digit in rw (between-yes 48 57 b (omega arith) i.1)

star-read : (s : List ℕ) → before_star (s ++ (42 ∷ [])) ≡ Some s
unfolding before_star
star-read [] = refl
star-read (b ∷ []) = refl
star-read (b ∷ c ∷ s) = rw (star-read (c ∷ s))

no-star : (s : List ℕ) → All (λ (b : ℕ). b ≤ 57) s → All (λ (b : ℕ). 48 ≤ b) s → before_star s ≡ None
unfolding before_star
no-star [] a h = refl
no-star (b ∷ []) a h = rw (ne_eqb b 42 (λ e. omega (arith, h.0, e)))
no-star (b ∷ c ∷ s) a h = rw (no-star (c ∷ s) a.1 h.1)

-- what stands before a last `*`
abbrev Starred : List ℕ → Option (List ℕ) → Type 0
Starred s None = Unit {0}
Starred s (Some t) = s ≡ t ++ (42 ∷ [])

abbrev put_back : ℕ → Option (List ℕ) → Option (List ℕ)
put_back b None = None
put_back b (Some t) = Some (b ∷ t)

star-on : (b : ℕ) (s : List ℕ) (o : Option (List ℕ)) → Starred s o → Starred (b ∷ s) (put_back b o)
star-on b s None h = tt
star-on b s (Some t) h = ap (λ (x : List ℕ). b ∷ x) h

star-is : (s : List ℕ) → Starred s (before_star s)
unfolding before_star
star-is [] = tt
star-is (b ∷ []) = cond_cases (Starred (b ∷ [])) (eqb b 42) (Some []) None (λ e. ap (λ (x : ℕ). x ∷ []) (eqb-true b 42 e)) (λ _. tt)
star-is (b ∷ c ∷ s) = star-on b (c ∷ s) (before_star (c ∷ s)) (star-is (c ∷ s))

size-digits : {s : List ℕ} {n : ℕ} → SizeText s n → All (λ (b : ℕ). b ≤ 57) s × All (λ (b : ℕ). 48 ≤ b) s
size-digits (size-text m z l h) =
    (numeral-all (λ (b : ℕ). b ≤ 57) (λ b d k. (digit-between b d k).1) m, numeral-all (λ (b : ℕ). 48 ≤ b) (λ b d k. (digit-between b d k).0) m)

bounded-read : {s : List ℕ} {n : ℕ} → SizeText s n → bounded_len s ≡ good (Bounded n)
unfolding bounded_len
bounded-read (size-text m z l h) = rw (size-read (size-text m z l h))

pub arraysize-read : {a : Option (List ℕ)} {l : Len} → Arraysize a l → len_of a ≡ good l
unfolding len_of len_before
arraysize-read size-absent = refl
arraysize-read (size-fixed {s = s} h) = rw (no-star s (size-digits h).0 (size-digits h).1, size-read h)
arraysize-read (size-bounded {s = s} h) = rw (star-read s) (bounded-read h)
arraysize-read size-free = unfold before_star bounded_len in refl

bounded-is : (s t : List ℕ) → s ≡ t ++ (42 ∷ []) → Holds (Arraysize (Some s)) (bounded_len t)
unfolding bounded_len
bounded-is s [] e = holds {a = Free} (rw e size-free)
bounded-is s (b ∷ t) e = holds-bind (size_is (b ∷ t)) (λ n h. holds (rw e (size-bounded h)))

pub arraysize-is : (a : Option (List ℕ)) → Holds (Arraysize a) (len_of a)
unfolding len_of
arraysize-is None = holds size-absent
arraysize-is (Some s) = go (before_star s) (star-is s)
  where
    go : (o : Option (List ℕ)) → Starred s o → Holds (Arraysize (Some s)) (len_before o s)
    go None h = unfold len_before in holds-bind (size_is s) (λ n k. holds (size-fixed k))
    go (Some t) h = unfold len_before in bounded-is s t h

-- ---- null

pub null-read : {k : Shape} {scalar : Bool} {o : Option (List ℕ)} {n : Option ℤ} → NullText k scalar o n → null_of k scalar o ≡ good n
unfolding null_of null_value
null-read null-absent = refl
null-read (null-counts h (trimmed {v = v} w m u)) = rw (h, words-trimmed w (integer-word v _ m) u, integer-read m)
null-read (null-array h) = rw h
null-read null-truths = refl
null-read null-bits = refl
null-read null-chars = refl

value-is : (g : Bool) (v : Width) {s : List ℕ} {ws : List (List ℕ)} → OneWord s ws → (scalar : Bool) → scalar ≡ true → Holds (NullText (Whole g v) scalar (Some s)) (null_value g v ws)
unfolding null_value
value-is g v (no_word w) scalar h = refuses
value-is g v (one_word {v = x} w i u e) scalar h = holds-bind (holds_as (λ f. 4) (integer-is g (suc (last v)) x)) (λ z m. holds (null-counts h (rw e (trimmed w m u))))
value-is g v (two-words x y vs) scalar h = refuses

pub null_is : (k : Shape) (scalar : Bool) (o : Option (List ℕ)) → Holds (NullText k scalar o) (null_of k scalar o)
unfolding null_of
null_is k scalar None = holds null-absent
null_is Truths scalar (Some s) = holds null-truths
null_is Bits scalar (Some s) = holds null-bits
null_is Text scalar (Some s) = holds null-chars
null_is (Whole g v) scalar (Some s) = holds-cond scalar (λ h. value-is g v (one-word-of s) scalar h) (λ h. holds (null-array h))

-- ---- a FIELD's column

pub judge-read : {d : List ℕ} {a o : Option (List ℕ)} {k : Kind} {l : Len} {n : Option ℤ} → Datatype d k → Arraysize a l → NullText (shape k) (is_scalar (column_of k l None)) o n → (rest : List ℕ)
    → judge (field_as d a o rest) ≡ good (column_of k l n)
unfolding judge
judge-read h i j rest = rw (datatype-read h, arraysize-read i, null-read j)

-- the column of a FIELD that was read
pub judge-is : (s : List ℕ) (f : Field) → IsField s f → Holds (λ (c : Column). (t : List ℕ) × FieldOf t c × (s ≡ t ++ f.rest)) (judge f)
unfolding judge
judge-is s f h =
    holds-bind (datatype-is f.datatype) (λ k x.
    holds-bind (arraysize-is f.arraysize) (λ l y.
    holds-bind (null_is (shape k) (is_scalar (column_of k l None)) f.null) (λ n z. holds (h.0, field_of h.3 h.4 x h.5 y z, h.2))))

-- ---- the list

-- a FIELD's text begins with `<`
pub starts : {t : List ℕ} {prs : List Pair} {o : Option (List ℕ)} → FieldText t prs o → (u : List ℕ) × (t ≡ 60 ∷ u)
starts (field-empty h k) = (_, refl)
starts (field-tags h k i e) = (_, refl)

then-cons : (k b : ℕ) (v : List ℕ) (f : Field) (c : Column) (more : List ℕ → Result Refusal (List Column)) (cs : List Column) → read_field (b ∷ v) ≡ good f → judge f ≡ good c
    → k < 64 → more f.rest ≡ good cs → fields_then k (b ∷ v) more ≡ good (c ∷ cs)
unfolding fields_then
then-cons k b v f c more cs r j l e = rw (r, j, ne_eqb k 64 (λ q. omega (arith, l, q)), e)

field-then : (k : ℕ) {t : List ℕ} {c : Column} → FieldOf t c → (s : List ℕ) (more : List ℕ → Result Refusal (List Column)) (cs : List Column) → k < 64 → more s ≡ good cs
    → fields_then k (t ++ s) more ≡ good (c ∷ cs)
field-then k {c = c} (field_of {t = t} {d = d} {o = o} {a = a} h x i y j z) s more cs l e =
    let u = starts h in
    let q : t ++ s ≡ 60 ∷ (u.0 ++ s) = ap (λ (w : List ℕ). w ++ s) u.1 in
    rw q (then-cons k 60 (u.0 ++ s) (field_as d a o s) c more cs (ap read_field (sym q) ∙ field-read h x y s) (judge-read i j z s) l e)

field-stays : {t : List ℕ} {c : Column} → FieldOf t c → (s : List ℕ) → skip_white (t ++ s) ≡ t ++ s
field-stays (field_of h x i y j z) s = let u = starts h in rw u.1 (skip-stays 60 (u.0 ++ s) (no-white 60 (lit≤ tt)))

fields_read : {s : List ℕ} {cs : List Column} → FieldsText s cs → (f k : ℕ) → length cs < f → k + length cs ≤ 64 → (k ≡ 0 → 1 ≤ length cs) → fields_f f k s ≡ good cs
unfolding fields_f fields_then
fields_read (fields-end h) zero k l m z = absurd (omega arith)
fields_read (fields-end h) (suc f) k l m z = rw (skip_all h, ne_eqb k 0 (λ e. let q : 1 ≤ 0 = z e in omega arith))
fields_read (fields-then h c r) zero k l m z = absurd (omega arith)
fields_read (fields-then {t = t} {s = s} {cs = cs} h c r) (suc f) k l m z =
    let ih : fields_f f (k + 1) s ≡ good cs = fields_read r f (k + 1) (omega arith) (omega arith) (λ e. absurd (omega arith)) in
    rw (skip-white h (t ++ s), field-stays c s) (field-then k c s (λ t. fields_f f (k + 1) t) cs (omega arith) ih)

-- columns that the text declares, whatever white space comes before it
abbrev AfterWhite : List ℕ → List Column → Type 0
AfterWhite s cs = (w : List ℕ) → White w → FieldsText (w ++ s) cs

then_is : (k : ℕ) (s : List ℕ) (more : List ℕ → Result Refusal (List Column)) → ((t : List ℕ) → Holds (FieldsText t) (more t)) → Holds (AfterWhite s) (fields_then k s more)
unfolding fields_then
then_is k [] more ih = holds-cond (eqb k 0) (λ _. refuses) (λ _. holds {a = []} (λ w h. rw append-nil (fields-end h)))
then_is k (b ∷ s) more ih =
    holds-bind (holds_as (at k) (field_is (b ∷ s))) (λ f h.
    holds-bind (holds_as (at k) (judge-is (b ∷ s) f h)) (λ c g.
    holds-cond (eqb k 64) (λ _. refuses) (λ _.
    holds-bind (ih f.rest) (λ cs r. holds {a = c ∷ cs} (λ w v. rw g.2 (fields-then v g.1 r))))))

fields-are : (f k : ℕ) (s : List ℕ) → Holds (FieldsText s) (fields_f f k s)
unfolding fields_f
fields-are zero k s = refuses
fields-are (suc f) k s =
    holds-weaken (then_is k (skip_white s) (λ t. fields_f f (k + 1) t) (λ t. fields-are f (k + 1) t))
    (λ cs h. subst⁻¹ (λ (x : List ℕ). FieldsText x cs) (skip_is s).whole (h (skip_is s).taken (skip_is s).spelled))

-- ---- declarations

pub declares-read : {s : List ℕ} {cs : List Column} → Declares s cs → declare s ≡ good cs
unfolding declare most_declarations
declares-read {s} {cs} d =
    rw (le-ltb 65536 (length s) d.sized) (fields_read d.fields 66 0 (omega (arith, d.few)) (omega (arith, d.few)) (λ _. d.some))

pub declares-is : (s : List ℕ) (cs : List Column) → declare s ≡ good cs → Declares s cs
declares-is s cs e =
    let a : AreColumns cs = holds_at (declare-is s) e in
    let r : FieldsText s cs × (length s ≤ 65536) = holds_at (text-is s) e in
    record { sized = r.1; fields = r.0; some = a.some; few = a.few }
  where
    text-is : (s : List ℕ) → Holds (λ (cs : List Column). FieldsText s cs × (length s ≤ 65536)) (declare s)
    text-is s = unfold declare most_declarations in
        holds-cond (ltb 65536 (length s)) (λ _. refuses) (λ l. holds-weaken (fields-are 66 0 s) (λ cs h. (h, ltb-false 65536 (length s) l)))

-- THE DECLARATIONS: a text declares columns exactly when it is read as declaring them
pub declares-exactly : (s : List ℕ) (cs : List Column) → Declares s cs ↔ (declare s ≡ good cs)
declares-exactly s cs = (declares-read, declares-is s cs)
