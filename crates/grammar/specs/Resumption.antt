-- One input in two parts: what converting the second behind the first gives.
use Rattle.std.specs.Prelude.{◌+◌, ◌-◌, ℕ, ◌++◌, length}
use Rattle.table.specs.Outcome.{Outcome, accepted, refused, written}

-- an outcome, and what was done behind it: rows and bytes are added, and a refusal is at its row behind the rows before. Nothing is done behind a
-- refusal
unfoldable pub followed_by : Outcome → Outcome → Outcome
followed_by (accepted r w) (accepted q v) = accepted (r + q) (w ++ v)
followed_by (accepted r w) (refused e q v) = refused e (r + q) (w ++ v)
followed_by (refused e r w) o = refused e r w

-- the room that an outcome leaves
unfoldable pub room_behind : ℕ → Outcome → ℕ
room_behind room o = room - length (written o)
