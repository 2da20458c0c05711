-- A byte more is put: what a turn of each loop that writes adds.
use Prim.Native.Nat.{◌+◌, ◌<◌, ◌≤◌, ℕ}
use native.Mathlib.Nat.{add-zero}
use native.Mathlib.Numerals.{add-one}
use native.Mathlib.Omega.{arith}
use mathlib.Core.List.{List, [], ◌++◌, ◌∷◌}
use mathlib.Core.Path.{◌∙◌, ◌≡◌, ap, refl, subst, sym}
use lib.ListN.{drop, get_or, length, length-drop, set, take}
use lib.Seq.{get_or-drop, take-suc}
use Rattle.moving.proofs.Puts.{puts_none, puts_then, puts-wrote}
use Rattle.moving.specs.Puts.{Puts}

-- before the first turn
pub puts-start : (l : List ℕ) (o : ℕ) → o ≤ length l → Puts l o [] l (o + 0)
puts-start l o h = subst (Puts l o [] l) (sym (add-zero o)) (puts_none l o h)

pub puts_one : {l l₁ xs : List ℕ} {o e : ℕ} (b next : ℕ) → Puts l o xs l₁ e → e < length l → next ≡ e + 1 → Puts l o (xs ++ (b ∷ [])) (set l₁ e b) next
puts_one b next u h n = puts_then u (puts-wrote (record { now-is = refl; next-is = n }) (omega (arith, u.long)))

-- the bytes from a place, one more
pub next-taken : (s : List ℕ) (from k : ℕ) → from + k < length s → take (k + 1) (drop from s) ≡ take k (drop from s) ++ (get_or s (from + k) 0 ∷ [])
next-taken s from k h =
    let l : k < length (drop from s) = simp length-drop (omega arith) in
    ap (λ (j : ℕ). take j (drop from s)) (add-one k) ∙ take-suc (drop from s) k 0 l
    ∙ ap (λ (b : ℕ). take k (drop from s) ++ (b ∷ [])) (get_or-drop from s k 0)
