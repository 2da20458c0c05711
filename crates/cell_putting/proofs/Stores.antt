-- What was put before: a store in the room that was left for it, and stores of more than is meant.
use Prim.Native.Nat.{◌+◌, ◌≤◌, ℕ}
use native.Mathlib.Omega.{arith}
use mathlib.Core.List.{List, [], ◌++◌, append_assoc, append-nil}
use mathlib.Core.Path.{◌∙◌, ◌≡◌, ap, ap₂, sym}
use lib.ListN.{drop, length, length-append, take}
use lib.Seq.{drop_at, length-sets, length-take-le, sets-eq, take-add, take-append-add, take_at, take-take}
use Rattle.moving.proofs.Puts.{puts-part, puts-wrote}
use Rattle.moving.specs.Puts.{Puts}
use Rattle.table.specs.Wrote.{Wrote}

-- of a store of more than is meant the front counts
pub puts-front : {l l₁ : List ℕ} {o e : ℕ} (xs ys : List ℕ) (next : ℕ) → Wrote l o (xs ++ ys) l₁ e → o + length (xs ++ ys) ≤ length l → next ≡ o + length xs → Puts l o xs l₁ next
puts-front {l} {l₁} {o} {e} xs ys next w h n = rw n (puts-part xs ys (puts-wrote w h))

-- the front of a longer front
front_of : (o p : ℕ) (old xs : List ℕ) → o ≤ p → p ≤ length old → take o (take p old ++ xs) ≡ take o old
front_of o p old xs h k =
    sym (take-take o p (take p old ++ xs) h)
    ∙ ap (take o) (take_at (take p old) xs p (length-take-le p old k))
    ∙ take-take o p old h

-- what stands before a place stands before an earlier one
pub puts_lower : {old new : List ℕ} {o p e : ℕ} {xs : List ℕ} → Puts old p xs new e → o ≤ p → Puts old o [] new o
puts_lower {old} {new} {o} {p} {e} {xs} u h =
    let k : o ≤ e = omega (arith, u.next-is) in
    record {
      front = sym (take-take o e new k) ∙ ap (take o) u.front ∙ front_of o p old xs h (omega (arith, u.next-is, u.room)) ∙ sym (append-nil (take o old));
      next-is = omega arith;
      room = omega (arith, u.room);
      long = u.long;
    }

-- what was put behind a place
behind : {old mid : List ℕ} {p end : ℕ} {xs : List ℕ} → Puts old p xs mid end → take (length xs) (drop p mid) ≡ xs
behind {old} {mid} {p} {end} {xs} u =
    let n : length (take p mid) ≡ p = length-take-le p mid (omega (arith, u.next-is, u.room, u.long)) in
    let k : length (take p old) ≡ p = length-take-le p old (omega (arith, u.next-is, u.room)) in
    sym (drop_at (take p mid) (take (length xs) (drop p mid)) p n)
    ∙ ap (drop p) (sym (take-add p (length xs) mid) ∙ ap (λ (j : ℕ). take j mid) (sym u.next-is) ∙ u.front)
    ∙ drop_at (take p old) xs p k

-- a store in the room before what was put
pub puts-under : {old mid new : List ℕ} {o end next : ℕ} (b xs : List ℕ) → Puts old (o + length b) xs mid end → Wrote mid o b new next → Puts old o (b ++ xs) new end
puts-under {old} {mid} {new} {o} {end} {next} b xs u w =
    let fits : o + length b ≤ length mid = omega (arith, u.next-is, u.room, u.long) in
    let n : length (take o mid ++ b) ≡ o + length b = length-append (take o mid) b ∙ ap (λ (j : ℕ). j + length b) (length-take-le o mid (omega arith)) in
    let low = puts_lower {o = o} u (omega arith) in
    record {
      front =
          ap₂ take (u.next-is ∙ ap (λ (j : ℕ). j + length xs) (sym n)) (w.now-is ∙ sets-eq b mid o fits)
          ∙ take-append-add (take o mid ++ b) (drop (o + length b) mid) (length xs)
          ∙ ap₂ (λ (a c : List ℕ). a ++ b ++ c) (low.front ∙ append-nil (take o old)) (behind u)
          ∙ append_assoc (take o old) b xs;
      next-is = omega (arith, u.next-is, length-append b xs);
      room = u.room;
      long = ap length w.now-is ∙ length-sets mid o b ∙ u.long;
    }
