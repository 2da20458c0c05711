-- Bytes put behind bytes: what is put in parts is put as a whole, and a run of stores puts its bytes.
use Prim.Native.Nat.{◌+◌, ◌≤◌, suc, ℕ}
use native.Mathlib.Nat.{add-suc, add-zero, suc-add}
use native.Mathlib.Omega.{arith}
use mathlib.Core.List.{List, [], ◌++◌, ◌∷◌, append_assoc, append-nil}
use mathlib.Core.Path.{◌∙◌, ◌≡◌, ap, refl, subst, sym}
use lib.ListN.{length, length-append, length-set, set, take}
use lib.Seq.{length-sets, length-take-le, sets, take_at, take-suc-set, take-take}
use Rattle.moving.specs.Puts.{Puts}
use Rattle.table.specs.Wrote.{Wrote}

pub puts_none : (l : List ℕ) (o : ℕ) → o ≤ length l → Puts l o [] l o
puts_none l o h = record { front = sym (append-nil (take o l)); next-is = omega arith; room = h; long = refl }

pub puts_then : {l l₁ l₂ : List ℕ} {o e₁ e₂ : ℕ} {xs ys : List ℕ} → Puts l o xs l₁ e₁ → Puts l₁ e₁ ys l₂ e₂ → Puts l o (xs ++ ys) l₂ e₂
puts_then {l} {l₁} {l₂} {o} {e₁} {e₂} {xs} {ys} u v = record {
  front = v.front ∙ ap (λ (k : List ℕ). k ++ ys) u.front ∙ append_assoc (take o l) xs ys;
  next-is = omega (arith, u.next-is, v.next-is, length-append xs ys);
  room = omega (arith, v.room, u.long);
  long = v.long ∙ u.long;
}

-- the same bytes, otherwise spelled
pub puts-as : {l l₁ : List ℕ} {o e : ℕ} {xs ys : List ℕ} → xs ≡ ys → Puts l o xs l₁ e → Puts l o ys l₁ e
puts-as {l} {l₁} {o} {e} q u = subst (λ (zs : List ℕ). Puts l o zs l₁ e) q u

-- a run of stores, from the front
pub front-run : (xs l : List ℕ) (i : ℕ) → i + length xs ≤ length l → take (i + length xs) (sets l i xs) ≡ take i l ++ xs
front-run [] l i h = simp (add-zero, append-nil)
front-run (x ∷ xs) l i h =
    rw (add-suc, ← (suc-add i (length xs)))
    (front-run xs (set l i x) (suc i) (simp length-set (omega arith))
    ∙ ap (λ (k : List ℕ). k ++ xs) (take-suc-set l i x (omega arith))
    ∙ append_assoc (take i l) (x ∷ []) xs)

-- what was written with room for it was put
pub puts-wrote : {l l₁ : List ℕ} {o e : ℕ} {xs : List ℕ} → Wrote l o xs l₁ e → o + length xs ≤ length l → Puts l o xs l₁ e
puts-wrote {l} {l₁} {o} {e} {xs} w h = record {
  front = ap (λ (k : ℕ). take k l₁) w.next-is ∙ ap (take (o + length xs)) w.now-is ∙ front-run xs l o h;
  next-is = w.next-is;
  room = omega (arith, w.next-is);
  long = ap length w.now-is ∙ length-sets l o xs;
}

-- of what was put only the first part counts
pub puts-part : {l l₁ : List ℕ} {o e : ℕ} (xs ys : List ℕ) → Puts l o (xs ++ ys) l₁ e → Puts l o xs l₁ (o + length xs)
puts-part {l} {l₁} {o} {e} xs ys u =
    let k : o + length xs ≤ e = omega (arith, u.next-is, length-append xs ys) in
    let n : length (take o l) ≡ o = length-take-le o l (omega (arith, u.next-is, u.room)) in
    record {
      front = sym (take-take (o + length xs) e l₁ k) ∙ ap (take (o + length xs)) (u.front ∙ sym (append_assoc (take o l) xs ys))
          ∙ take_at (take o l ++ xs) ys (o + length xs) (length-append (take o l) xs ∙ ap (λ (j : ℕ). j + length xs) n);
      next-is = refl;
      room = omega (arith, u.room);
      long = u.long;
    }

-- what is put at a place that has not moved on leaves the places before it
pub puts-before : {l l₁ : List ℕ} {o e : ℕ} {xs : List ℕ} → Puts l o xs l₁ e → Puts l o [] l₁ o
puts-before {l} {l₁} {o} {e} {xs} u = subst (λ (k : ℕ). Puts l o [] l₁ k) (add-zero o) (puts-part [] xs u)
