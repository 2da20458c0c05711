-- A run of bytes that pass a test.
use Rattle.std.specs.Prelude.{◌+◌, ◌≤◌, ℕ, Bool, true, List, ◌≡◌, drop, length, take}
use Rattle.table.specs.All.{All}

-- the n bytes from a place on
pub record Passes (test : ℕ → Bool) (s : List ℕ) (place n : ℕ) : Type 0 where
  pub inside : place + n ≤ length s
  pub all : All (λ (c : ℕ). test c ≡ true) (take n (drop place s))
