-- What is declared: 1 to 64 columns, lengths 1 to 4,096, a declared null only where it is an element of its column.
use Rattle.std.proofs.lemmas.Option.{none-some}
use Rattle.std.specs.Prelude.{Option, None, Some}
use Prim.Native.Nat.{◌*◌, ◌+◌, ◌-◌, ◌<◌, ◌≤◌, suc, zero, zero-le, ℕ}
use native.Mathlib.Nat.{le_refl}
use native.Mathlib.Omega.{arith}
use mathlib.Core.Bool.{Bool, ◌&&◌, cond, false, true}
use mathlib.Core.List.{List, [], ◌∷◌}
use mathlib.Core.Path.{◌≡◌, refl, subst}
use lib.Dec.{eqb, leb, lit≤, ltb}
use lib.IntN.{pos, ℤ}
use lib.ListN.{length}
use borrow.Author.Tests.{eqb-false, leb-true}
use Rattle.fields.specs.Fields.{Field, before_star, bounded_len, declare, fields_f, fields_then, judge, kind_of, kinds, len_before, len_of, length_of, null_of, null_value, read_field}
use Rattle.number.proofs.Laws.{integer-is}
use Rattle.number.specs.Number.{Fault, digit, numeral}
use Rattle.table.proofs.Laws.{and_both, between_is, holds-any, holds_as, holds-bind, holds-cond, holds-weaken}
use Rattle.table.specs.All.{All}
use Rattle.table.specs.Bytes.{between, skip_white, words}
use Rattle.table.specs.Cell.{AreColumns, IsColumn, below, bound, column_of, is_element, is_scalar, most_elements, null_element, null_of_kind}
use Rattle.table.specs.Outcome.{Refusal, at, most_declarations}
use Rattle.table.specs.Result.{Holds, Result, holds, refuses}
use Rattle.table.specs.Shape.{Bits, Shape, Text, Truths, Whole, Width, in_range, last, shape}
use Rattle.table.specs.declared.Column.{Column}
use Rattle.table.specs.declared.Len.{Len}
use Rattle.table.specs.declared.Len.TheVariants.{Fixed, Free}

-- a numeral is at least what came before
numeral-ge : (v : ℕ → Result Fault ℕ) (a : ℕ) (s : List ℕ) → Holds (λ (n : ℕ). a ≤ n) (numeral v 10 a s)
unfolding numeral
numeral-ge v a [] = holds (le_refl a)
numeral-ge v a (b ∷ s) = holds-bind (holds-any (v b)) (λ d _. holds-weaken (numeral-ge v (a * 10 + d) s) (λ n h. omega arith))

length-is : (s : List ℕ) → Holds (λ (n : ℕ). (1 ≤ n) × (n ≤ most_elements)) (length_of s)
unfolding length_of
length-is [] = refuses
length-is (b ∷ s) =
    holds-cond (between 49 57 b && leb (length s) 3) (λ e.
    holds-bind (holds_as (λ f. 3) (numeral-ge digit (b - 48) s)) (λ n g.
    holds-cond (leb n most_elements) (λ l. holds (omega (arith, between_is 49 57 b (and_both _ _ e).0), leb-true n most_elements l)) (λ _. refuses))) (λ _. refuses)

abbrev Room : Len → Type 0
Room l = (1 ≤ bound l) × (bound l ≤ most_elements)

bounded-is : (t : List ℕ) → Holds Room (bounded_len t)
unfolding bounded_len
bounded-is [] = holds {a = Free} (lit≤ tt, lit≤ tt)
bounded-is (b ∷ t) = holds-bind (length-is (b ∷ t)) (λ n h. holds h)

before-is : (o : Option (List ℕ)) (s : List ℕ) → Holds Room (len_before o s)
unfolding len_before
before-is (Some t) s = bounded-is t
before-is None s = holds-bind (length-is s) (λ n h. holds h)

len_is : (o : Option (List ℕ)) → Holds Room (len_of o)
unfolding len_of
len_is None = holds {a = Fixed 1} (lit≤ tt, lit≤ tt)
len_is (Some s) = before-is (before_star s) s

-- the null that a column shows is an element of it
abbrev NullIs : Shape → Bool → Option ℤ → Type 0
NullIs k scalar n = (z : ℤ) → cond scalar (null_of_kind k n) None ≡ Some z → is_element k z ≡ true

-- a declared null is a value of its kind
abbrev Value : Shape → Option ℤ → Type 0
Value Truths n = Unit {0}
Value Bits n = Unit {0}
Value Text n = Unit {0}
Value (Whole g v) None = Unit {0}
Value (Whole g v) (Some z) = in_range g (suc (last v)) z ≡ true

scalar-some : (b : Bool) (o : Option ℤ) (z : ℤ) → cond b o None ≡ Some z → o ≡ Some z
scalar-some true o z h = h
scalar-some false o z h = absurd (none-some z h)

is-value : (P : ℤ → Type 0) (y z : ℤ) → P y → Some y ≡ Some z → P z
is-value P y z p e = subst P (cc) p

null_is : (k : Shape) (scalar : Bool) (n : Option ℤ) → Value k n → NullIs k scalar n
unfolding is_element below
null_is Truths scalar n v z h = is-value (λ (z : ℤ). is_element Truths z ≡ true) (pos 2) z refl (scalar-some scalar _ z h)
null_is Bits scalar n v z h = absurd (none-some z (scalar-some scalar _ z h))
null_is Text scalar n v z h = absurd (none-some z (scalar-some scalar _ z h))
null_is (Whole g w) scalar None v z h = absurd (none-some z (scalar-some scalar _ z h))
null_is (Whole g w) scalar (Some y) v z h = is-value (λ (z : ℤ). in_range g (suc (last w)) z ≡ true) y z v (scalar-some scalar _ z h)

value-is : (g : Bool) (v : Width) (ws : List (List ℕ)) → Holds (Value (Whole g v)) (null_value g v ws)
unfolding null_value
value-is g v [] = refuses
value-is g v (w ∷ []) = holds-bind (holds_as (λ f. 4) (integer-is g (last v) w)) (λ z h. holds h)
value-is g v (w ∷ x ∷ ws) = refuses

undeclared : (k : Shape) → Value k None
undeclared Truths = tt
undeclared Bits = tt
undeclared Text = tt
undeclared (Whole g v) = tt

null_of-is : (k : Shape) (scalar : Bool) (o : Option (List ℕ)) → Holds (Value k) (null_of k scalar o)
unfolding null_of
null_of-is k scalar None = holds (undeclared k)
null_of-is Truths scalar (Some s) = holds tt
null_of-is Bits scalar (Some s) = holds tt
null_of-is Text scalar (Some s) = holds tt
null_of-is (Whole g v) scalar (Some s) = holds-cond scalar (λ _. value-is g v (words s)) (λ _. holds tt)

judge-is : (f : Field) → Holds IsColumn (judge f)
unfolding judge null_element
judge-is f =
    holds-bind (holds-any (kind_of kinds f.datatype)) (λ k _.
    holds-bind (len_is f.arraysize) (λ l r.
    holds-bind (null_of-is (shape k) (is_scalar (column_of k l None)) f.null) (λ n v.
    holds (record { some-room = r.0; most-room = r.1; null_is = null_is (shape k) (is_scalar (column_of k l n)) n v }))))

abbrev From : ℕ → List Column → Type 0
From k cs = All IsColumn cs × (length cs + k ≤ 64) × (k ≡ 0 → 0 < length cs)

fields-is : (f k : ℕ) (s : List ℕ) → k ≤ 64 → Holds (From k) (fields_f f k s)
unfolding fields_f
fields-is zero k s h = refuses
fields-is (suc f) k s h = then k (skip_white s) (λ t. fields_f f (k + 1) t) h (λ t g. fields-is f (k + 1) t g)
  where
    then : (k : ℕ) (s : List ℕ) (more : List ℕ → Result Refusal (List Column)) → k ≤ 64 → ((t : List ℕ) → k + 1 ≤ 64 → Holds (From (k + 1)) (more t)) → Holds (From k) (fields_then k s more)
    then k [] more h g = unfold fields_then in holds-cond (eqb k 0) (λ _. refuses) (λ e. holds (tt, omega arith, λ z. absurd (eqb-false k 0 e z)))
    then k (b ∷ s) more h g = unfold fields_then in
        holds-bind (holds_as (at k) (holds-any (read_field (b ∷ s)))) (λ x _.
        holds-bind (holds_as (at k) (judge-is x)) (λ c i.
        holds-cond (eqb k 64) (λ _. refuses) (λ e.
        holds-bind (g x.rest (omega (arith, eqb-false k 64 e))) (λ cs r. holds ((i, r.0), omega (arith, r.1), λ _. omega arith)))))

-- what is declared are 1 to 64 columns, each as 01 allows it
pub declare-is : (s : List ℕ) → Holds AreColumns (declare s)
unfolding declare
declare-is s =
    holds-cond (ltb most_declarations (length s)) (λ _. refuses)
    (λ _. holds-weaken (fields-is 66 0 s zero-le) (λ cs r. record { some = r.2 refl; few = omega (arith, r.1); each = r.0 }))
