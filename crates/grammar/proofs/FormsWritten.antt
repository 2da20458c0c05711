-- A cell has a form in the target, as the grammar says it, exactly when the writer's definition gives one; and a row is refused in writing exactly where
-- the grammar says, with that number.
use Rattle.std.specs.Prelude.{Option, None, Some}
use Prim.Native.Nat.{◌+◌, ℕ}
use mathlib.Core.Bool.{Bool, cond, false, false≢true, true}
use mathlib.Core.List.{List, [], ◌++◌, ◌∷◌}
use mathlib.Core.Path.{◌∙◌, ◌≡◌, refl, subst, subst⁻¹, sym}
use lib.IntN.{negsuc, pos, ℤ}
use Rattle.binary.proofs.Laws.{null-fails}
use Rattle.binary.specs.Binary.{can_be_empty, elements_bytes, null_form, write_binary}
use Rattle.grammar.proofs.Fronts.{fails-then, fails-told, refused}
use Rattle.grammar.proofs.ShownRead.{stands-for-is, stands-written}
use Rattle.grammar.proofs.TextRead.{text-is, text-read}
use Rattle.grammar.specs.Valid.{HasForm, NoForm, NoForms, XmlForm, at-form, form-binary-bounded, form-binary-chars, form-binary-elements, form-binary-free, form-binary-null, form-binary2}
use Rattle.grammar.specs.Valid.{form-text-chars, form-text-elements, form-text-null, form-then, no-form-chars, no-form-empty, no-form-null, xml-form}
use Rattle.rows.specs.Stream.{write_cell, write_cells, write_row}
use Rattle.table.proofs.Laws.{fails-as, fails-bind, fails-weaken, good-bind, holds_as, holds-eq, holds-weaken, null-stands, the}
use Rattle.table.specs.All.{All}
use Rattle.table.specs.Cell.{Cell, is_char, null, null_element, shown}
use Rattle.table.specs.Outcome.{Refusal, at}
use Rattle.table.specs.Result.{Fails, IsGood, Result, ◌>>=◌, bad, fails, gives, good}
use Rattle.table.specs.Shape.{Bits, Shape, Text, Truths, Whole, shape}
use Rattle.table.specs.declared.Column.{Column}
use Rattle.table.specs.declared.Len.{Len}
use Rattle.table.specs.declared.Len.TheVariants.{Bounded, Fixed, Free}
use Rattle.table.specs.declared.Rows.{Rows}
use Rattle.table.specs.declared.Rows.TheVariants.{Binary, Binary2, TableData}
use Rattle.tabledata.proofs.Laws.{element-text-fails}
use Rattle.tabledata.specs.TableData.{element_text, escaped, form_of, forms, is_text, write_text}

chars-written : (es : List ℤ) → All XmlForm es → IsGood (forms es)
unfolding forms form_of
chars-written [] a = tt
chars-written (e ∷ es) a = one e a.0 (forms es) (chars-written es a.1)
  where
    one : (e : ℤ) → XmlForm e → (r : Result ℕ (List ℕ)) → IsGood r → IsGood (form_of e >>= λ b. r >>= λ s. good (b ++ s))
    one e (xml-form h) r g = unfold form_of in rw (text-read h) (good-bind r _ g (λ s. tt))

chars-have : (es : List ℤ) → IsGood (forms es) → All XmlForm es
unfolding forms
chars-have [] g = tt
chars-have (e ∷ es) g = let h = one e (forms es) g in (h.0, chars-have es h.1)
  where
    one : (e : ℤ) (r : Result ℕ (List ℕ)) → IsGood (form_of e >>= λ b. r >>= λ s. good (b ++ s)) → XmlForm e × IsGood r
    one (pos n) r g = unfold form_of in code (is_text n) refl r g
      where
        code : (b : Bool) → is_text n ≡ b → (r : Result ℕ (List ℕ)) → IsGood (cond b (good (escaped n)) (bad 16) >>= λ b. r >>= λ s. good (b ++ s)) → XmlForm (pos n) × IsGood r
        code true h (good s) g = (xml-form (text-is n h), tt)
        code true h (bad m) g = absurd g
        code false h r g = absurd g
    one (negsuc n) r g = unfold form_of in absurd g

elements-written : (k : Shape) (es : List ℤ) → (k ≡ Text → ⊥) → IsGood (element_text k es)
unfolding element_text
elements-written Truths es h = tt
elements-written Bits es h = tt
elements-written (Whole g v) es h = tt
elements-written Text es h = absurd (h refl)

-- null in BINARY
empty-written : (c : Column) (o : Option ℤ) → can_be_empty (shape c.kind) c.len ≡ true → IsGood (null_form c o)
unfolding null_form
empty-written c None h = rw h tt
empty-written c (Some z) h = tt

chars-empty : (l : Len) → can_be_empty Text l ≡ true
unfolding can_be_empty
chars-empty (Fixed n) = refl
chars-empty (Bounded n) = refl
chars-empty Free = refl

pub form-written : {c : Column} {to : Rows} {x : Cell} → HasForm c to x → IsGood (write_cell to c x)
unfolding write_cell write_text write_binary
form-written form-text-null = tt
form-written {c} (form-text-elements {e = e} {es = es} h) = good-bind (element_text (shape c.kind) (e ∷ es)) _ (elements-written (shape c.kind) (e ∷ es) h) (λ t. tt)
form-written {c} (form-text-chars {e = e} {es = es} k a) =
    good-bind (element_text (shape c.kind) (e ∷ es)) _ (rw k (unfold element_text in chars-written (e ∷ es) a)) (λ t. tt)
form-written form-binary-elements = tt
form-written {c} (form-binary-null h) = rw (stands-written h).1 (unfold null_form in tt)
form-written {c} (form-binary-bounded h) = empty-written c (null_element c) (rw h (unfold can_be_empty in refl))
form-written {c} (form-binary-free h) = empty-written c (null_element c) (rw h (unfold can_be_empty in refl))
form-written {c} (form-binary-chars h) = empty-written c (null_element c) (rw h (chars-empty c.len))
form-written form-binary2 = tt

is-chars : (k : Shape) → is_char k ≡ true → k ≡ Text
is-chars Truths h = absurd (false≢true h)
is-chars Bits h = absurd (false≢true h)
is-chars (Whole g v) h = absurd (false≢true h)
is-chars Text h = refl

good_of : {A B : Type 0} (r : Result ℕ A) (f : A → Result ℕ B) → IsGood (r >>= f) → IsGood r
good_of (good a) f h = tt
good_of (bad e) f h = h

abbrev NotText : Shape → Type 0
NotText Truths = Unit {0}
NotText Bits = Unit {0}
NotText (Whole g v) = Unit {0}
NotText Text = ⊥

text-form : (c : Column) (e : ℤ) (es : List ℤ) → IsGood (element_text (shape c.kind) (e ∷ es)) → HasForm c TableData (shown (e ∷ es))
text-form c e es g = go (shape c.kind) refl g
  where
    go : (k : Shape) → shape c.kind ≡ k → IsGood (element_text k (e ∷ es)) → HasForm c TableData (shown (e ∷ es))
    go Truths q g = form-text-elements (λ t. subst NotText (sym q ∙ t) tt)
    go Bits q g = form-text-elements (λ t. subst NotText (sym q ∙ t) tt)
    go (Whole s v) q g = form-text-elements (λ t. subst NotText (sym q ∙ t) tt)
    go Text q g = unfold element_text in form-text-chars q (chars-have (e ∷ es) g)

null-form : (c : Column) → IsGood (null_form c (null_element c)) → HasForm c Binary null
null-form c g = by-element (null_element c) refl g
  where
    by_length : (l : Len) → c.len ≡ l → can_be_empty (shape c.kind) l ≡ true → HasForm c Binary null
    by_length (Fixed n) q h = unfold can_be_empty in form-binary-chars (is-chars (shape c.kind) h)
    by_length (Bounded n) q h = form-binary-bounded q
    by_length Free q h = form-binary-free q

    can-be : (b : Bool) → can_be_empty (shape c.kind) c.len ≡ b → IsGood {E = ℕ} (cond b (good (elements_bytes c [])) (bad 15)) → HasForm c Binary null
    can-be true h g = by_length c.len refl h
    can-be false h g = absurd g

    by-element : (o : Option ℤ) → null_element c ≡ o → IsGood (null_form c o) → HasForm c Binary null
    by-element None q g = unfold null_form in can-be (can_be_empty (shape c.kind) c.len) refl g
    by-element (Some z) q g = form-binary-null (stands-for-is c z (null-stands c z q))

pub form-is : (to : Rows) (c : Column) (x : Cell) → IsGood (write_cell to c x) → HasForm c to x
unfolding write_cell write_text write_binary
form-is TableData c null g = form-text-null
form-is TableData c (shown []) g = absurd g
form-is TableData c (shown (e ∷ es)) g = text-form c e es (good_of (element_text (shape c.kind) (e ∷ es)) _ g)
form-is Binary c null g = null-form c g
form-is Binary c (shown []) g = absurd g
form-is Binary c (shown (e ∷ es)) g = form-binary-elements
form-is Binary2 c x g = form-binary2

-- ---- which number

-- what a cell that has no form is refused with
abbrev number_for : Cell → ℕ
number_for null = 15
number_for (shown []) = 14
number_for (shown (e ∷ es)) = 16

cell-number : (to : Rows) (c : Column) (x : Cell) → Fails (λ (n : ℕ). n ≡ number_for x) (write_cell to c x)
unfolding write_cell write_text write_binary
cell-number TableData c null = gives
cell-number TableData c (shown []) = fails refl
cell-number TableData c (shown (e ∷ es)) = fails-bind (element-text-fails refl (shape c.kind) (e ∷ es)) (λ t. gives)
cell-number Binary c null = null-fails refl c (null_element c)
cell-number Binary c (shown []) = fails refl
cell-number Binary c (shown (e ∷ es)) = gives
cell-number Binary2 c x = gives

no-form : (to : Rows) (c : Column) (x : Cell) → (HasForm c to x → ⊥) → NoForm c to x (number_for x)
no-form to c null h = no-form-null h
no-form to c (shown []) h = no-form-empty h
no-form to c (shown (e ∷ es)) h = no-form-chars h

-- a cell without a form is refused with its number
without-form : (to : Rows) (c : Column) (x : Cell) → (HasForm c to x → ⊥) → write_cell to c x ≡ bad (number_for x)
without-form to c x h = refused (cell-number to c x) (holds-weaken (holds-eq (write_cell to c x)) (λ b e. h (form-is to c x (rw e tt))))

no-form-read : (to : Rows) (c : Column) (x : Cell) (n : ℕ) → NoForm c to x n → write_cell to c x ≡ bad n
no-form-read to c x n (no-form-empty h) = without-form to c (shown []) h
no-form-read to c x n (no-form-null h) = without-form to c null h
no-form-read to c x n (no-form-chars {e = e} {es = es} h) = without-form to c (shown (e ∷ es)) h

no-form-is : (to : Rows) (c : Column) (x : Cell) → Fails (NoForm c to x) (write_cell to c x)
no-form-is to c x = fails-told (fails-weaken (cell-number to c x) (λ n e q. subst⁻¹ (NoForm c to x) e (no-form to c x (λ h. absurd (subst IsGood q (form-written h))))))

no-forms-read : {to : Rows} {cs : List Column} {k : ℕ} {xs : List Cell} {n j : ℕ} → NoForms to cs k xs n j → write_cells to cs xs k ≡ bad (at j n)
unfolding write_cells
no-forms-read {to} (at-form {c = c} {x = x} {n = n} h) = rw (no-form-read to c x n h)
no-forms-read {to} (form-then {c = c} {x = x} h r) = let b = the (write_cell to c x) (form-written h) in rw (b.1, no-forms-read r)

no-forms-are : (to : Rows) (cs : List Column) (k : ℕ) (xs : List Cell) → Fails (λ (e : Refusal). NoForms to cs k xs e.number e.column) (write_cells to cs xs k)
unfolding write_cells at
no-forms-are to [] k xs = gives
no-forms-are to (c ∷ cs) k [] = gives
no-forms-are to (c ∷ cs) k (x ∷ xs) =
    fails-then (fails-as (at k) (no-form-is to c x) (λ n h. at-form h)) (holds_as (at k) (holds-weaken (holds-eq (write_cell to c x)) (λ b e. form-is to c x (rw e tt)))) (λ b h.
    fails-bind (fails-weaken (no-forms-are to cs (k + 1) xs) (λ e r. form-then h r)) (λ r. gives))

-- A ROW IS REFUSED IN WRITING exactly where the grammar says: at the first cell that has no form, with its number
pub unwritten-read : {to : Rows} {cs : List Column} {xs : List Cell} {n k : ℕ} → NoForms to cs 0 xs n k → write_row to cs xs ≡ bad (at k n)
unfolding write_row
unwritten-read h = rw (no-forms-read h)

pub unwritten-is : (to : Rows) (cs : List Column) (xs : List Cell) → Fails (λ (e : Refusal). NoForms to cs 0 xs e.number e.column) (write_row to cs xs)
unfolding write_row
unwritten-is to cs xs = fails-bind (no-forms-are to cs 0 xs) (λ b. gives)
