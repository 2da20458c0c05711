-- What stands at a place of a list: the element there and what follows it, or nothing.
use Prim.Native.Nat.{◌+◌, ◌<◌, ◌≤◌, ℕ}
use native.Mathlib.Numerals.{towards_suc}
use mathlib.Core.List.{List, [], ◌∷◌}
use mathlib.Core.Path.{◌≡◌}
use lib.ListN.{drop, drop_of_length-le, get_or, length}
use lib.Seq.{drop-cons}

module _ {A : Type 0} where
  pub element-at : (s : List A) (i : ℕ) (d : A) → i < length s → drop i s ≡ get_or s i d ∷ drop (i + 1) s
  element-at s i d h = simp towards_suc (drop-cons s i d h)

  pub done : (s : List A) (i : ℕ) → length s ≤ i → drop i s ≡ []
  done s i h = drop_of_length-le s h

-- a byte of a text
pub next1 : (s : List ℕ) (i : ℕ) → i < length s → drop i s ≡ get_or s i 0 ∷ drop (i + 1) s
next1 s i h = element-at s i 0 h
