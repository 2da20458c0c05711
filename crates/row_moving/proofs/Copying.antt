-- Runs of stores that copy the front of a list: more of it from where the last run ended (sets_more), or from before it (sets_last), since a run
-- put over a shorter one leaves nothing of it (sets_over). Cited by put_few and put_eights.
use Prim.Native.Nat.{◌+◌, ◌-◌, ◌<◌, ◌≤◌, suc, ℕ}
use native.Mathlib.Omega.{arith}
use mathlib.Core.List.{List, [], ◌∷◌}
use mathlib.Core.Path.{◌∙◌, ◌≡◌, ap, ap₂, refl, sym}
use lib.ListN.{drop, length, length-drop, set, take}
use lib.Seq.{length-take-le, set_comm, set-set, sets, take-add}
use Rattle.table.proofs.Wrote.{sets-append}

-- a store before a run
set_before : (xs l : List ℕ) (i j y : ℕ) → i < j → set (sets l j xs) i y ≡ sets (set l i y) j xs
set_before [] l i j y h = refl
set_before (x ∷ xs) l i j y h =
    set_before xs (set l j x) i (suc j) y (omega arith)
    ∙ ap (λ (m : List ℕ). sets m (suc j) xs) (set_comm l j i x y (λ e. omega arith))

sets_over : (xs ys l : List ℕ) (i : ℕ) → length xs ≤ length ys → sets (sets l i xs) i ys ≡ sets l i ys
sets_over [] ys l i h = refl
sets_over (x ∷ xs) [] l i h = absurd (omega arith)
sets_over (x ∷ xs) (y ∷ ys) l i h =
    ap (λ (m : List ℕ). sets m (suc i) ys) (set_before xs (set l i x) i (suc i) y (omega arith))
    ∙ ap (λ (m : List ℕ). sets (sets m (suc i) xs) (suc i) ys) (set-set l i x y)
    ∙ sets_over xs ys (set l i y) (suc i) (omega arith)

pub sets_more : (s l l₁ : List ℕ) (i k n : ℕ) → k ≤ length s → l₁ ≡ sets l i (take k s) → sets l₁ (i + k) (take n (drop k s)) ≡ sets l i (take (k + n) s)
sets_more s l l₁ i k n h e =
    ap₂ (λ (m : List ℕ) (j : ℕ). sets m (i + j) (take n (drop k s))) e (sym (length-take-le k s h))
    ∙ sets-append (take k s) (take n (drop k s)) l i
    ∙ ap (sets l i) (sym (take-add k n s))

pub sets_last : (s l l₁ : List ℕ) (i k last n : ℕ) → last ≤ k → k ≤ last + n → last + n ≤ length s → l₁ ≡ sets l i (take k s)
    → sets l₁ (i + last) (take n (drop last s)) ≡ sets l i (take (last + n) s)
sets_last s l l₁ i k last n low high room e =
    let over : ℕ = k - last in
    let parts : k ≡ last + over = omega arith in
    let left : n ≤ length (drop last s) = simp length-drop (omega arith) in
    let few : length (take over (drop last s)) ≡ over = length-take-le over (drop last s) (omega arith) in
    let all : length (take n (drop last s)) ≡ n = length-take-le n (drop last s) left in
    let first : List ℕ = sets l i (take last s) in
    ap (λ (m : List ℕ). sets m (i + last) (take n (drop last s)))
    (e ∙ ap (λ (j : ℕ). sets l i (take j s)) parts ∙ sym (sets_more s l first i last over (omega arith) refl))
    ∙ sets_over (take over (drop last s)) (take n (drop last s)) first (i + last) (omega (arith, few, all))
    ∙ sets_more s l first i last n (omega arith) refl
