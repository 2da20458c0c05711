-- One or two digits, by two stores: the second stands over the first, which was a zero, or behind it.
use Prim.Native.Nat.{◌%◌, ◌+◌, ◌/◌, ◌<◌, ◌≤◌, ℕ}
use native.Mathlib.Omega.{arith}
use mathlib.Core.Bool.{Bool, false, true}
use mathlib.Core.List.{List, [], ◌∷◌}
use mathlib.Core.Path.{◌≡◌, ap, refl, subst}
use lib.Dec.{leb}
use lib.ListN.{length, length-set, set}
use mir.Val.{bool_byte}
use borrow.Author.Tests.{le-ltb, leb-false, leb-true, lt-ltb}
use Rattle.content_showing.proofs.Stores.{puts-byte, puts-no-byte, puts-two}
use Rattle.moving.proofs.Puts.{puts-as, puts_then}
use Rattle.moving.specs.Puts.{Puts}
use Rattle.number.specs.Number.{digits}

one-digit : (v : ℕ) → v < 10 → (v % 10 + 48) ∷ [] ≡ digits 20 v
unfolding digits
one-digit v h = let e : v % 10 + 48 ≡ v + 48 = omega arith in rw (lt-ltb v 10 h) (ap (λ (c : ℕ). c ∷ []) e)

two_digits : (v : ℕ) → 10 ≤ v → v < 100 → (v / 10 + 48) ∷ (v % 10 + 48) ∷ [] ≡ digits 20 v
unfolding digits
two_digits v h k = rw (le-ltb v 10 h, lt-ltb (v / 10) 10 (omega arith)) refl

pub two-most : (v : ℕ) → bool_byte (leb 10 v) ≤ 1
two-most v = go (leb 10 v)
  where
    go : (b : Bool) → bool_byte b ≤ 1
    go true = omega arith
    go false = omega arith

pub pair_put : (l : List ℕ) (o v : ℕ) → v < 100 → o + 2 ≤ length l
    → Puts l o (digits 20 v) (set (set l o (v / 10 + 48)) (o + bool_byte (leb 10 v)) (v % 10 + 48)) (o + bool_byte (leb 10 v) + 1)
pair_put l o v h room = go (leb 10 v) refl
  where
    go : (b : Bool) → leb 10 v ≡ b → Puts l o (digits 20 v) (set (set l o (v / 10 + 48)) (o + bool_byte b) (v % 10 + 48)) (o + bool_byte b + 1)
    go true e =
        let behind : o + 2 ≡ o + 1 + 1 = omega arith in
        puts-as (two_digits v (leb-true 10 v e) h)
        (subst (λ (k : ℕ). Puts l o ((v / 10 + 48) ∷ (v % 10 + 48) ∷ []) (set (set l o (v / 10 + 48)) (o + 1) (v % 10 + 48)) k) behind (puts-two l o _ _ room))
    go false e =
        let same : o ≡ o + 0 = omega arith in
        let over = puts_then (puts-no-byte l o (v / 10 + 48) (omega arith)) (puts-byte (set l o (v / 10 + 48)) o (v % 10 + 48) (simp length-set (omega arith))) in
        puts-as (one-digit v (leb-false 10 v e)) (subst (λ (k : ℕ). Puts l o ((v % 10 + 48) ∷ []) (set (set l o (v / 10 + 48)) k (v % 10 + 48)) (k + 1)) same over)
