-- What the functions that note places promise: which places stand in a buffer, and how many.
use Rattle.std.specs.Prelude.{◌*◌, ◌+◌, ◌/◌, ℕ, Bool, cond, List, [], ◌++◌, ◌∷◌, ◌≡◌, eqb, ltb, length, set}
use Rattle.compare.specs.Compare.{Place, placed}

-- a place behind n others, where there are two numbers for it
abbrev pub noted_at : ℕ → ℕ → ℕ → List ℕ → List ℕ
noted_at n row column places = cond (ltb n (length places / 2)) (set (set places (2 * n) row) (2 * n + 1) column) places

abbrev pub marked_at : ℕ → ℕ → Bool → List Place
marked_at r k differs = cond differs (record { row = r; column = k } ∷ []) []

-- the places of row r from column k on, where the columns' bits are set
unfoldable pub marked : ℕ → ℕ → List ℕ → List Place
marked r k [] = []
marked r k (b ∷ bs) = marked_at r k (eqb b 1) ++ marked r (k + 1) bs

-- places noted behind n others, whatever these are and whatever buffer is below them; and how many there are then
pub record Notes (n : ℕ) (entry : List ℕ) (ps : List Place) (exit : List ℕ) (r : ℕ) : Type 0 where
  pub counts : r ≡ n + length ps
  pub leaves : (ds : List Place) (start : List ℕ) → length ds ≡ n → entry ≡ placed ds start → exit ≡ placed (ds ++ ps) start
  pub long : length exit ≡ length entry
