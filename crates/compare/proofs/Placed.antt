-- How many places are filled, and the numbers of the buffer: two for each place that fits, from the front, and the rest as it was. By induction along the places,
-- two numbers a step.
use Rattle.std.proofs.lemmas.Option.{none-some}
use Rattle.std.specs.Prelude.{Some, slice_get}
use Prim.Native.Nat.{◌*◌, ◌+◌, ◌/◌, ◌<◌, ◌≤◌, min, suc, zero, ℕ}
use native.Mathlib.Omega.{arith}
use mathlib.Core.List.{List, [], ◌++◌, ◌∷◌, append-nil}
use mathlib.Core.Logic.{◌⊎◌, inl, inr}
use mathlib.Core.Path.{◌≡◌, ap, refl}
use lib.Dec.{ltb}
use lib.ListN.{get_or, length, length-append}
use borrow.Author.Tests.{ltb-false, ltb-true}
use Rattle.compare.specs.Compare.{Place, filled, placed}
use Rattle.table.proofs.Laws.{cond_cases}

pub filled-least : (n size : ℕ) → filled n size ≡ min n (size / 2)
unfolding filled
filled-least n size =
    cond_cases (λ (m : ℕ). m ≡ min n (size / 2)) (ltb (size / 2) n) (size / 2) n (λ h. omega (arith, ltb-true (size / 2) n h)) (λ h. omega (arith, ltb-false (size / 2) n h))

pub placed-long : (ps : List Place) (entry : List ℕ) → length (placed ps entry) ≡ length entry
unfolding placed
placed-long [] entry = refl
placed-long (p ∷ ps) [] = refl
placed-long (p ∷ ps) (x ∷ []) = refl
placed-long (p ∷ ps) (x ∷ y ∷ entry) = ap (λ (n : ℕ). suc (suc n)) (placed-long ps entry)

pub placed-named : (ps : List Place) (entry : List ℕ) (k : ℕ) (p : Place) → k < length entry / 2 → slice_get ps k ≡ Some p
    → (get_or (placed ps entry) (2 * k) 0 ≡ p.row) × (get_or (placed ps entry) (2 * k + 1) 0 ≡ p.column)
unfolding placed
placed-named [] entry k p l e = absurd (none-some p e)
placed-named (q ∷ ps) [] k p l e = absurd (omega arith)
placed-named (q ∷ ps) (x ∷ []) k p l e = absurd (omega arith)
placed-named (q ∷ ps) (x ∷ y ∷ entry) zero p l e = let here : q ≡ p = cc e in rw here (refl, refl)
placed-named (q ∷ ps) (x ∷ y ∷ entry) (suc k) p l e =
    let twice : 2 * suc k ≡ suc (suc (2 * k)) = omega arith in
    let once : 2 * suc k + 1 ≡ suc (suc (2 * k + 1)) = omega arith in
    rw (once, twice) (placed-named ps entry k p (omega arith) e)

pub placed-rest : (ps : List Place) (entry : List ℕ) (i : ℕ) → 2 * min (length ps) (length entry / 2) ≤ i → get_or (placed ps entry) i 0 ≡ get_or entry i 0
unfolding placed
placed-rest [] entry i l = refl
placed-rest (p ∷ ps) [] i l = refl
placed-rest (p ∷ ps) (x ∷ []) i l = refl
placed-rest (p ∷ ps) (x ∷ y ∷ entry) zero l = absurd (omega arith)
placed-rest (p ∷ ps) (x ∷ y ∷ entry) (suc zero) l = absurd (omega arith)
placed-rest (p ∷ ps) (x ∷ y ∷ entry) (suc (suc i)) l = placed-rest ps entry i (omega arith)

-- ---- places that do not fit change nothing

placed-full : (ps qs : List Place) (entry : List ℕ) → length entry / 2 ≤ length ps → placed (ps ++ qs) entry ≡ placed ps entry
unfolding placed
placed-full [] [] entry h = refl
placed-full [] (q ∷ qs) [] h = refl
placed-full [] (q ∷ qs) (x ∷ []) h = refl
placed-full [] (q ∷ qs) (x ∷ y ∷ entry) h = absurd (omega arith)
placed-full (p ∷ ps) qs [] h = refl
placed-full (p ∷ ps) qs (x ∷ []) h = refl
placed-full (p ∷ ps) qs (x ∷ y ∷ entry) h = ap (λ (l : List ℕ). p.row ∷ p.column ∷ l) (placed-full ps qs entry (omega arith))

-- the first of them, where these are all or as many as are filled
pub placed-enough : (ps qs : List Place) (entry : List ℕ) → (qs ≡ []) ⊎ (filled (length (ps ++ qs)) (length entry) ≤ length ps) → placed (ps ++ qs) entry ≡ placed ps entry
placed-enough ps [] entry h = rw append-nil
placed-enough ps (q ∷ qs) entry (inl e) = rw (e, append-nil)
placed-enough ps (q ∷ qs) entry (inr h) =
    placed-full ps (q ∷ qs) entry (omega (arith, h, filled-least (length (ps ++ (q ∷ qs))) (length entry), length-append ps (q ∷ qs)))
