-- A cell of TABLEDATA is refused exactly as the grammar says, with its number. Soundness follows the reader, which hands on what it found;
-- what must not be there is refuted by its being read. Completeness: what is not there cannot be the value, and one refusal is left.
use Prim.Native.Nat.{ℕ}
use mathlib.Core.Bool.{Bool, false, false≢true, true}
use mathlib.Core.List.{List, [], ◌∷◌}
use mathlib.Core.Path.{◌∙◌, ◌≡◌, ap, refl, sym}
use lib.Dec.{eqb}
use lib.IntN.{ℤ}
use lib.ListN.{length}
use borrow.Author.Tests.{eqb-false, eqb-true}
use Rattle.grammar.proofs.Fronts.{fails_both, fails-then, fails-told, not_so, refused}
use Rattle.grammar.proofs.TextRead.{cell-text-is, cell-text-read, elements-are, elements-outside, elements-read, fits-is, fits_read, outside-elements}
use Rattle.grammar.specs.CellRefusals.{MarkedAt, NoTextCell, OutsideFirst, no-element, no-text-value, not-as-many, out_of_range}
use Rattle.grammar.specs.Text.{IsText, TextElements}
use Rattle.table.proofs.Laws.{bad-good, cond_cases, fails-bind, holds-weaken}
use Rattle.table.specs.All.{All}
use Rattle.table.specs.Result.{Fails, Holds, Result, bad, fails, gives, good}
use Rattle.table.specs.Shape.{Shape, shape}
use Rattle.table.specs.declared.Column.{Column}
use Rattle.tabledata.proofs.Laws.{cell-fails, elements-fails, of-integers}
use Rattle.tabledata.specs.TableData.{cell_text, count_fits, read_text, text_cell, text_elements}

-- ---- an element and its characters

marked-read : {s cs rest : List ℕ} → MarkedAt s cs rest → cell_text s ≡ good (cs, rest)
marked-read m = ap cell_text m.whole ∙ cell-text-read m.is_white m.marked _

marked-is : (s : List ℕ) → Holds (λ (p : List ℕ × List ℕ). MarkedAt s p.0 p.1) (cell_text s)
marked-is s = holds-weaken (cell-text-is s) (λ p r. record { white = r.white; taken = r.taken; is_white = r.is_white; whole = r.whole; marked = r.spelled })

-- ---- a cell

-- a refusal of elements is 18 where the grammar says so, and 11 elsewhere
elements-number : (k : Shape) (cs : List ℕ) → Fails (λ (n : ℕ). (n ≡ 18 → ⊥) → n ≡ 11) (text_elements k cs)
elements-number k cs = elements-fails (λ _. refl) k cs (of-integers k (λ h. absurd (h refl)))

pub no-text-read : {c : Column} {s : List ℕ} {n : ℕ} → NoTextCell c s n → read_text c s ≡ bad n
unfolding read_text text_cell
no-text-read {s = s} (no-element h) = rw (refused (cell-fails refl s) (holds-weaken (marked-is s) (λ p m. h p.0 p.1 m)))
no-text-read {c} (no-text-value {cs = cs} m h o) =
    rw (marked-read m, refused (eleven (shape c.kind) cs o) (holds-weaken (elements-are (shape c.kind) cs) (λ es k. h es k.0 k.1)))
  where
    eleven : (k : Shape) (cs : List ℕ) → (OutsideFirst k cs → ⊥) → Fails (λ (n : ℕ). n ≡ 11) (text_elements k cs)
    eleven k cs o = fails_both (elements-number k cs) (elements-outside k cs) (λ n x y. x (λ e. o (y e)))
no-text-read (out_of_range m o) = rw (marked-read m, outside-elements o)
no-text-read {c} (not-as-many {es = es} m a h k) =
    rw (marked-read m, elements-read a h, not_so (count_fits c (length (_ ∷ es))) (λ e. k (fits-is c (length es) e)))

pub no-text-is : (c : Column) (s : List ℕ) → Fails (NoTextCell c s) (read_text c s)
unfolding read_text text_cell
no-text-is c s =
    fails-then (fails-told (cell-fails (λ q. no-element (λ cs rest m. bad-good (sym q ∙ marked-read m))) s)) (marked-is s) (λ p m.
    fails-bind
    (fails-then (no-elements m) (elements-are k p.0) (λ es h.
    cond_cases (Fails (NoTextCell c s)) (count_fits c (length es)) _ (bad 12) (λ _. gives) (λ e. fails (go m es h.0 h.1 e)))) (λ x. gives))
  where
    k : Shape
    k = shape c.kind

    same-bad : {n : ℕ} → ◌≡◌ {A = Result ℕ (List ℤ)} (bad n) (bad 18) → n ≡ 18
    same-bad e = cc

    number : {cs rest : List ℕ} → MarkedAt s cs rest → (n : ℕ) → text_elements k cs ≡ bad n → ((n ≡ 18 → ⊥) → n ≡ 11) → (n ≡ 18 → OutsideFirst k cs) → (b : Bool) → eqb n 18 ≡ b
        → NoTextCell c s n
    number m n q x y true e = rw (eqb-true n 18 e) (out_of_range m (y (eqb-true n 18 e)))
    number m n q x y false e =
        let eleven = x (eqb-false n 18 e) in
        rw eleven (no-text-value m (λ es a h. bad-good (sym q ∙ elements-read a h)) (λ o. eqb-false n 18 e (same-bad (sym q ∙ outside-elements o))))

    no-elements : {cs rest : List ℕ} → MarkedAt s cs rest → Fails (NoTextCell c s) (text_elements k cs)
    no-elements {cs} m =
        fails-told (fails_both (elements-number k cs) (elements-outside k cs) (λ n x y q. number m n q x y (eqb n 18) refl))

    go : {cs rest : List ℕ} → MarkedAt s cs rest → (es : List ℤ) → All IsText cs → TextElements k cs es → count_fits c (length es) ≡ false → NoTextCell c s 12
    go m [] a h e = unfold count_fits in absurd (false≢true (sym e))
    go m (x ∷ es) a h e = not-as-many m a h (λ k. false≢true (sym e ∙ fits_read c k))
