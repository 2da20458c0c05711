-- `element_reading::truths::add_truth` meets its contract: no letters add nothing; the number of a word tells its element.
use Prim.Native.Nat.{ℕ}
use native.Mathlib.Omega.{arith}
use mathlib.Core.List.{List, [], append-nil}
use mathlib.Core.Path.{◌∙◌, ◌≡◌, ap, refl, sym}
use lib.ListN.{length, length-set}
use mir.Facts.{to_z-of_z}
use mir.Syntax.{w64}
use Rattle.std.specs.Prelude.{Option}
use Rattle.tabledata.specs.TableData.{truth_word}
use Rattle.element_reading.proofs.Words.{added_none, added-word}
use Rattle.element_reading.proofs.elements.Laws.{put-more}
use Rattle.element_reading.proofs.truths.Laws.{spelling-none, spelling-some, truth-value, truth_as}
use Rattle.element_reading.specs.Words.{is-added, is-refused, spelling, truth_number}
use Rattle.character_reading.proofs.characters.Laws.{nothing-found}
use Rattle.element_reading.proofs.truths.add_truth.Goals as goal

pub returns-then-word-eq1 : goal.returns-then-word-eq1
returns-then-word-eq1 c = record {
  found = λ w e.
      rw (spelling-none w (sym e ∙ c.if-word-eq1.true), added_none truth_word) (is-added {fs = []} refl (λ es p. rw append-nil p));
  most = omega arith;
  long = refl;
}

-- a word of letters, by what its number tells
told : (w : List ℕ) (word : ℕ) (r v : Option ℕ) → word ≡ spelling w → (word ≡ 1 → ⊥) → r ≡ truth_number word → r ≡ v → truth_word w ≡ truth_as v
told w word r v e some t q = truth-value w (spelling-some w (λ n. some (e ∙ n))) ∙ ap truth_as (ap truth_number (sym e) ∙ sym t ∙ q)

pub returns-in_err-truth : goal.returns-in_err-truth
returns-in_err-truth c =
    let e = c.in_err-truth.ensures in
    rw (nothing-found c.from_residual.ensures.1 e.value e.ok_part) (record {
      found = λ w h.
          rw (added-word truth_word w _ (spelling-some w (λ n. c.if-word-eq1.false (h ∙ n))) (told w _ _ _ h c.if-word-eq1.false c.truth_of.ensures e.ok_part)) (is-refused refl);
      most = omega arith;
      long = refl;
    })

pub returns : goal.returns
returns c =
    let stored = to_z-of_z {w = w64} (record { sfits = c.as_element.type_inv }) ∙ c.as_element.ensures in
    record {
      found = λ w h.
          rw (added-word truth_word w _ (spelling-some w (λ n. c.if-word-eq1.false (h ∙ n))) (told w _ _ _ h c.if-word-eq1.false c.truth_of.ensures c.in_ok-truth.ensures.ok_part))
          (is-added refl (λ es p. put-more p c.put.ensures stored));
      most = omega arith;
      long = ap length c.put.ensures ∙ simp length-set;
    }
