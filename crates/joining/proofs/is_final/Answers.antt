-- joining::is_final: by the number, as the definition goes; the two sums are held to what they say.
use mathlib.Core.Path.{◌∙◌, ◌≡◌, ap₂, sym}
use mathlib.Core.Bool.{true}
use mathlib.Core.Logic.{◌⊎◌, inl, inr, ⊎_elim}
use Prim.Native.Nat.{ℕ}
use lib.Dec.{eqb, leb}
use Rattle.parts.proofs.Laws.{end-final, full-final, no_end, other-final}
use Rattle.parts.specs.Join.{at_its_end}
use Rattle.joining.proofs.is_final.Goals as goal

an-end : (n : ℕ) → (n ≡ 0) ⊎ ((n ≡ 8) ⊎ (n ≡ 10)) → at_its_end n ≡ true
unfolding at_its_end
an-end n = ⊎_elim (λ e. rw e) (λ e. ⊎_elim (λ f. rw f) (λ f. rw f) e)

pub returns-in-17 : goal.returns-in-17
returns-in-17 c = ap₂ leb c.from.ensures c.sum.ensures ∙ sym (full-final _ _ _ _ c.in-17.is)

pub returns-in-0 : goal.returns-in-0
returns-in-0 c = ap₂ eqb c.sum-in-0.ensures c.from-in-0.ensures ∙ sym (end-final _ _ _ _ (an-end _ c.in-0.is))

pub returns-in_default : goal.returns-in_default
returns-in_default c =
    let r = c.in_default.in_default-own.rest in
    sym (other-final _ _ _ _ r.0.1 (no_end _ (λ e. r.1 (inl e)) (λ e. r.1 (inr (inl e))) (λ e. r.1 (inr (inr e)))))
