-- One byte or two stored at the place that was reached.
use Prim.Native.Nat.{◌+◌, ◌≤◌, ℕ}
use native.Mathlib.Numerals.{add-one}
use mathlib.Core.List.{List, [], ◌∷◌}
use mathlib.Core.Path.{ap, refl}
use lib.ListN.{length, set}
use Rattle.moving.proofs.Puts.{puts-before, puts-wrote}
use Rattle.moving.specs.Puts.{Puts}

pub puts-byte : (l : List ℕ) (o b : ℕ) → o + 1 ≤ length l → Puts l o (b ∷ []) (set l o b) (o + 1)
puts-byte l o b h = puts-wrote (record { now-is = refl; next-is = refl }) h

-- it may not count
pub puts-no-byte : (l : List ℕ) (o b : ℕ) → o + 1 ≤ length l → Puts l o [] (set l o b) o
puts-no-byte l o b h = puts-before (puts-byte l o b h)

pub puts-two : (l : List ℕ) (o a b : ℕ) → o + 2 ≤ length l → Puts l o (a ∷ b ∷ []) (set (set l o a) (o + 1) b) (o + 2)
puts-two l o a b h = puts-wrote (record { now-is = ap (λ (n : ℕ). set (set l o a) n b) (add-one o); next-is = refl }) h
