-- What the contracts speak of beside the definitions: a run of bytes that all pass a test.
use Rattle.std.specs.Prelude.{◌-◌, ◌≤◌, ℕ, Bool, true, List, ◌≡◌, drop, length, take}
use Rattle.table.specs.All.{All}

-- the bytes from one place to another
pub record PassTo (test : ℕ → Bool) (s : List ℕ) (from next : ℕ) : Type 0 where
  pub low : from ≤ next
  pub high : next ≤ length s
  pub passing : All (λ (c : ℕ). test c ≡ true) (take (next - from) (drop from s))
