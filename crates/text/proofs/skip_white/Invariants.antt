-- `text::skip_white` meets its contract. The invariant: white space is skipped to the same rest from here on.
use Prim.Native.Nat.{◌≤◌}
use mathlib.Core.Path.{◌≡◌}
use lib.ListN.{drop, length}
use Rattle.table.specs.Bytes.{skip_white}
use Rattle.text.proofs.skip_white.Given as goal

abbrev pub invariant-loop-i : goal.invariant-loop-i
invariant-loop-i l = (l.at ≤ l.i) × (l.i ≤ length l.s) × (skip_white (drop l.at l.s) ≡ skip_white (drop l.i l.s))
