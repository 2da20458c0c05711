-- What the functions that move cells by a plan promise of bytes that go as they stand.
use Rattle.std.specs.Prelude.{◌+◌, ℕ, false, List, [], ◌≡◌, drop, take, Option, Some, None}
use Rattle.cell_putting.specs.Clauses.{is_text}
use Rattle.moving.specs.Puts.{Puts}
use Rattle.moving.specs.declared.Moved.{Moved}
use Rattle.table.specs.declared.Rows.{Rows}

-- m bytes of the input stand in the buffer, and no null; not where rows have tags
abbrev pub PassesBytes : Rows → ℕ → List ℕ → ℕ → List ℕ → ℕ → List ℕ → Option Moved → Type 0
PassesBytes to m s place old o new (Some r) = (is_text to ≡ false) × (r.next ≡ place + m) × (r.null ≡ false) × Puts old o (take m (drop place s)) new r.end
PassesBytes to m s place old o new None = Puts old o [] new o
