-- What a leaf leaves in a row's buffer: the bytes stand behind those that were there up to the place, and `next` is the place after them. What
-- stands behind that place is not said, so that a leaf may store eight bytes where it means three.
use Rattle.std.specs.Prelude.{◌+◌, ◌≤◌, ℕ, List, ◌++◌, ◌≡◌, length, take}

pub record Puts (old : List ℕ) (place : ℕ) (added : List ℕ) (new : List ℕ) (next : ℕ) : Type 0 where
  pub front : take next new ≡ take place old ++ added
  pub next-is : next ≡ place + length added
  pub room : next ≤ length old
  pub long : length new ≡ length old
