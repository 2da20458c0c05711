-- Laws of lists that the loops cite: what stands before and behind a store.
use Prim.Native.Nat.{◌+◌, ◌≤◌, ℕ}
use native.Mathlib.Omega.{arith}
use mathlib.Core.List.{List, ◌++◌}
use mathlib.Core.Path.{◌∙◌, ◌≡◌, ap, sym}
use lib.ListN.{drop, length, length-append, take}
use lib.Seq.{drop_at, drop-drop, length-take-le, sets, sets-eq, take_at}

module _ {A : Type 0} where
  pub take-sets : (vs l : List A) (i : ℕ) → i + length vs ≤ length l → take (i + length vs) (sets l i vs) ≡ take i l ++ vs
  take-sets vs l i h =
      let e : length (take i l) ≡ i = length-take-le i l (omega arith) in
      rw (sets-eq vs l i h)
      (take_at (take i l ++ vs) (drop (i + length vs) l) (i + length vs) (length-append (take i l) vs ∙ ap (λ (k : ℕ). k + length vs) e))

  pub drop-sets : (vs l : List A) (i : ℕ) → i + length vs ≤ length l → drop (i + length vs) (sets l i vs) ≡ drop (i + length vs) l
  drop-sets vs l i h =
      let e : length (take i l) ≡ i = length-take-le i l (omega arith) in
      ap (drop (i + length vs)) (sets-eq vs l i h)
      ∙ drop_at (take i l ++ vs) (drop (i + length vs) l) (i + length vs) (length-append (take i l) vs ∙ ap (λ (k : ℕ). k + length vs) e)

  pub more-kept : (k b : ℕ) (l l' : List A) → drop b l ≡ drop b l' → drop (b + k) l ≡ drop (b + k) l'
  more-kept k b l l' h = sym (drop-drop k b l) ∙ ap (drop k) h ∙ drop-drop k b l'
