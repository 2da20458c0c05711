-- What elements show, and what that is written as: cited by everything that moves elements.
use Rattle.std.specs.Prelude.{Option, Some, None}
use Prim.Native.Nat.{◌≤◌, ℕ}
use native.Mathlib.Omega.{arith}
use mathlib.Core.Bool.{Bool, ◌&&◌, false, true}
use mathlib.Core.List.{List, [], ◌∷◌}
use mathlib.Core.Logic.{◌⊎◌, inl, inr}
use mathlib.Core.Path.{◌∙◌, ◌≡◌, ap, refl, subst, sym}
use lib.IntN.{ℤ}
use lib.ListN.{length}
use Rattle.binary.specs.Binary.{elements_bytes, write_binary, write_binary2}
use Rattle.cell_putting.proofs.Cells.{Plainly, null-put, one-put}
use Rattle.cell_putting.specs.Clauses.{PutsElements, one_form}
use Rattle.moving.specs.Cells.{MovesRead, NeverNull, PutsCell, shown_as}
use Rattle.moving.specs.Puts.{Puts}
use Rattle.moving.specs.declared.Moved.{Moved}
use Rattle.number.specs.Clauses.{shape_as}
use Rattle.number.specs.declared.Elements.{Elements}
use Rattle.rows.specs.Stream.{write_cell}
use Rattle.table.specs.Cell.{empty_is_null, is_null, is_null_list, is_null_of_kind, is_scalar, null, show, shown, stands_for_null}
use Rattle.table.specs.Result.{good}
use Rattle.table.specs.Shape.{Bits, Shape, Text, shape}
use Rattle.table.specs.declared.Column.{Column}
use Rattle.table.specs.declared.Rows.{Rows}
use Rattle.table.specs.declared.Rows.TheVariants.{Binary, Binary2, TableData}
use Rattle.tabledata.specs.TableData.{element_text, tagged, write_text}

-- ---- which columns have no element that stands for null

none-stands : (c : Column) → ((e : ℤ) → stands_for_null c e ≡ false) → NeverNull c
unfolding is_null_list
none-stands c h [] = refl
none-stands c h (e ∷ []) = h e
none-stands c h (e ∷ f ∷ es) = refl

-- arrays
pub array-never : (c : Column) → is_scalar c ≡ false → NeverNull c
unfolding stands_for_null
array-never c h = none-stands c (λ e. rw h)

-- bits and characters
and-false : (b : Bool) → (b && false) ≡ false
and-false true = refl
and-false false = refl

pub bits-never : (c : Column) → shape c.kind ≡ Bits → NeverNull c
unfolding stands_for_null
bits-never c q = none-stands c (λ e. rw q (and-false (is_scalar c)))

pub text-never : (c : Column) → shape c.kind ≡ Text → NeverNull c
unfolding stands_for_null
text-never c q = none-stands c (λ e. rw q (and-false (is_scalar c)))

pub neither-never : (c : Column) (e : Elements) → (e ≡ Elements.Bits) ⊎ (e ≡ Elements.Text) → shape_as e ≡ shape c.kind → NeverNull c
neither-never c e (inl h) q = bits-never c (sym q ∙ ap shape_as h)
neither-never c e (inr h) q = text-never c (sym q ∙ ap shape_as h)

-- ---- what they show

some-shown : (x : ℤ) (es : List ℤ) → empty_is_null (shown (x ∷ es)) ≡ shown (x ∷ es)
unfolding empty_is_null
some-shown x es = refl

pub shows-some : (from : Rows) (c : Column) (es : List ℤ) → NeverNull c → 1 ≤ length es → shown_as from c es ≡ shown es
shows-some from c [] h k = absurd (omega arith)
shows-some from c (x ∷ es) h k = go from
  where
    go : (from : Rows) → shown_as from c (x ∷ es) ≡ shown (x ∷ es)
    go TableData = unfold shown_as show in rw (h (x ∷ es)) (some-shown x es)
    go Binary = unfold shown_as show in rw (h (x ∷ es)) (some-shown x es)
    go Binary2 = unfold shown_as show in rw (h (x ∷ es))

kept : (c : Column) (z : ℤ) → empty_is_null (show c (z ∷ [])) ≡ show c (z ∷ [])
kept c z = go (is_null_list (stands_for_null c) (z ∷ [])) refl
  where
    go : (b : Bool) → is_null_list (stands_for_null c) (z ∷ []) ≡ b → empty_is_null (show c (z ∷ [])) ≡ show c (z ∷ [])
    go true q = unfold show empty_is_null in rw q
    go false q = unfold show empty_is_null in rw q

-- one element shows what it shows in all three
pub shows-one : (from : Rows) (c : Column) (z : ℤ) → shown_as from c (z ∷ []) ≡ show c (z ∷ [])
shows-one TableData c z = unfold shown_as in kept c z
shows-one Binary c z = unfold shown_as in kept c z
shows-one Binary2 c z = unfold shown_as in refl

-- ---- what that is written as

pub text-writes : (c : Column) (es : List ℤ) (t : List ℕ) → 1 ≤ length es → element_text (shape c.kind) es ≡ good t → write_cell TableData c (shown es) ≡ good (tagged t)
unfolding write_cell write_text
text-writes c [] t k e = absurd (omega arith)
text-writes c (x ∷ es) t k e = rw e

pub binary-writes : (c : Column) (es : List ℤ) → 1 ≤ length es → write_cell Binary c (shown es) ≡ good (elements_bytes c es)
unfolding write_cell write_binary
binary-writes c [] k = absurd (omega arith)
binary-writes c (x ∷ es) k = refl

pub binary2-writes : (c : Column) (es : List ℤ) → write_cell Binary2 c (shown es) ≡ good (elements_bytes c es)
unfolding write_cell write_binary2
binary2-writes c es = refl

-- ---- elements that were read, put

module _ (Reads : ℕ → List ℤ → Type 0) (from : Rows) (c : Column) (never : NeverNull c) (old : List ℕ) (o : ℕ) (new : List ℕ) (next : ℕ) (es : List ℤ) (reads : Reads next es)
    (some : 1 ≤ length es) where
  -- as text between its tags
  pub text-put : (t : List ℕ) (e : ℕ) → element_text (shape c.kind) es ≡ good t → Puts old o (tagged t) new e → MovesRead Reads from TableData c old o new (Some (record { next = next; end = e; null = false }))
  unfolding is_null
  text-put t e w u =
      let x : shown_as from c es ≡ shown es = shows-some from c es never some in
      record {
        es = es;
        reads = reads;
        put = record { bytes = tagged t; writes = rw x (text-writes c es t some w); puts = u; same_next = refl; null_is = rw x };
      }

  -- as bytes, with what stands around them
  pub elements-put : (to : Rows) → write_cell to c (shown es) ≡ good (elements_bytes c es) → (r : Option Moved) → PutsElements c es next old o new r → MovesRead Reads from to c old o new r
  unfolding is_null
  elements-put to w (Some r) u =
      let x : shown_as from c es ≡ shown es = shows-some from c es never some in
      record {
        es = es;
        reads = subst (λ (k : ℕ). Reads k es) (sym u.same_next) reads;
        put = record { bytes = elements_bytes c es; writes = rw x w; puts = u.puts; same_next = refl; null_is = rw x u.not_null };
      }
  elements-put to w None u = u

-- ---- one element by its value

one-moved : (Reads : ℕ → List ℤ → Type 0) (from to : Rows) (c : Column) (z : ℤ) (old : List ℕ) (o : ℕ) (new : List ℕ) (next : ℕ) (r : Option Moved) → Reads next (z ∷ [])
    → PutsCell to c (show c (z ∷ [])) next old o new r → MovesRead Reads from to c old o new r
one-moved Reads from to c z old o new next (Some r) h u = record {
  es = z ∷ [];
  reads = subst (λ (k : ℕ). Reads k (z ∷ [])) (sym u.same_next) h;
  put = rw (shows-one from c z, u.same_next) (record { bytes = u.bytes; writes = u.writes; puts = u.puts; same_next = refl; null_is = u.null_is });
}
one-moved Reads from to c z old o new next None h u = u

module _ (Reads : ℕ → List ℤ → Type 0) (from to : Rows) (c : Column) (k : Shape) (z : ℤ) (old : List ℕ) (o : ℕ) (new : List ℕ) (next : ℕ) (one : is_scalar c ≡ true) (q : shape c.kind ≡ k)
    (reads : Reads next (z ∷ [])) where
  -- it stands for null
  pub null-moved : (r : Option Moved) → is_null_of_kind k c.null z ≡ true → PutsCell to c null next old o new r → MovesRead Reads from to c old o new r
  null-moved r h u = one-moved Reads from to c z old o new next r reads (null-put to c k z next old o new r one q h u)

  -- it does not
  pub value-moved : (e : ℕ) → Plainly k → is_null_of_kind k c.null z ≡ false → Puts old o (one_form to k z) new e → MovesRead Reads from to c old o new (Some (record { next = next; end = e; null = false }))
  value-moved e p h u = one-moved Reads from to c z old o new next (Some (record { next = next; end = e; null = false })) reads (one-put to c k z next old o new e one q p h u)
