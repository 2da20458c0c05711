-- What the grammar says a cell shows is what the definition `show` computes: which elements stand for null, then lists of them.
use Rattle.std.specs.Prelude.{Some, Option, None}
use mathlib.Core.Bool.{false, false≢true, true}
use mathlib.Core.List.{List, [], ◌∷◌}
use mathlib.Core.Path.{◌∙◌, ◌≡◌, ap, refl, subst⁻¹, sym}
use lib.IntN.{pos, ℤ}
use borrow.Author.Tests.{eqb-true}
use Rattle.grammar.proofs.Fronts.{not_so}
use Rattle.grammar.specs.Shown.{Shows, StandsForNull, null-declared, null-unknown, shows-list, shows-null}
use Rattle.table.proofs.Laws.{and_both, cond_cases, same_self, same_true}
use Rattle.table.specs.Cell.{Cell, is_null_list, is_null_of_kind, is_one, is_scalar, null, null_element, show, shown, stands_for_null}
use Rattle.table.specs.Shape.{Bits, Shape, Text, Truths, Whole, shape}
use Rattle.table.specs.declared.Column.{Column}
use Rattle.table.specs.declared.Len.{Len}
use Rattle.table.specs.declared.Len.TheVariants.{Bounded, Fixed, Free}

pub stands-for-read : {c : Column} {z : ℤ} → StandsForNull c z → stands_for_null c z ≡ true
unfolding stands_for_null
stands-for-read {z = z} (null-declared l k n) = rw (l, k, n) (same_self z)
stands-for-read {z = z} (null-unknown l k) = rw (l, k) (same_self z)

-- where an element stands for null, one is written for it
pub stands-written : {c : Column} {z : ℤ} → StandsForNull c z → (y : ℤ) × (null_element c ≡ Some y)
unfolding null_element
stands-written {z = z} (null-declared l k n) = (z, rw (l, k, n))
stands-written {z = z} (null-unknown l k) = (z, rw (l, k))

is_one_lem : (l : Len) → is_one l ≡ true → l ≡ Fixed 1
is_one_lem (Fixed n) h = ap Fixed (eqb-true n 1 h)
is_one_lem (Bounded n) h = absurd (false≢true h)
is_one_lem Free h = absurd (false≢true h)

pub stands-for-is : (c : Column) (z : ℤ) → stands_for_null c z ≡ true → StandsForNull c z
unfolding stands_for_null
stands-for-is c z e =
    let b = and_both (is_scalar c) (is_null_of_kind (shape c.kind) c.null z) e in by_kind (is_one_lem c.len b.0) (shape c.kind) refl c.null refl b.1
  where
    by_kind : c.len ≡ Fixed 1 → (k : Shape) → shape c.kind ≡ k → (n : Option ℤ) → c.null ≡ n → is_null_of_kind k n z ≡ true → StandsForNull c z
    by_kind l Truths k n m e = subst⁻¹ (StandsForNull c) (same_true z (pos 2) e) (null-unknown l k)
    by_kind l Bits k n m e = absurd (false≢true e)
    by_kind l Text k n m e = absurd (false≢true e)
    by_kind l (Whole g v) k None m e = absurd (false≢true e)
    by_kind l (Whole g v) k (Some y) m e = subst⁻¹ (StandsForNull c) (same_true z y e) (null-declared l k m)

is-null : (c : Column) (es : List ℤ) → is_null_list (stands_for_null c) es ≡ true → Shows c es null
unfolding is_null_list
is-null c [] h = absurd (false≢true h)
is-null c (e ∷ []) h = shows-null (stands-for-is c e h)
is-null c (e ∷ f ∷ es) h = absurd (false≢true h)

not_null : (c : Column) (es : List ℤ) → ((z : ℤ) → es ≡ z ∷ [] → StandsForNull c z → ⊥) → is_null_list (stands_for_null c) es ≡ false
unfolding is_null_list
not_null c [] h = refl
not_null c (e ∷ []) h = not_so (stands_for_null c e) (λ k. h e refl (stands-for-is c e k))
not_null c (e ∷ f ∷ es) h = refl

one-null : (c : Column) (z : ℤ) → StandsForNull c z → is_null_list (stands_for_null c) (z ∷ []) ≡ true
unfolding is_null_list
one-null c z s = stands-for-read s

pub shows-read : {c : Column} {es : List ℤ} {x : Cell} → Shows c es x → show c es ≡ x
unfolding show
shows-read {c} (shows-null {z = z} h) = rw (one-null c z h)
shows-read {c} (shows-list {es = es} h) = rw (not_null c es h)

pub shows-is : (c : Column) (es : List ℤ) → Shows c es (show c es)
unfolding show
shows-is c es =
    cond_cases (Shows c es) (is_null_list (stands_for_null c) es) null (shown es) (is-null c es)
    (λ h. shows-list (λ z e s. false≢true (sym h ∙ rw e (one-null c z s))))
