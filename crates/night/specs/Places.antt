-- The place behind a byte, or the end.
use Rattle.std.specs.Prelude.{◌<◌, ◌≤◌, ℕ}

pub record Behind (end i r : ℕ) : Type 0 where
  pub onward : i ≤ r
  pub inside : r ≤ end
  pub further : i < end → i < r
