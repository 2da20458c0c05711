-- declaring::spans::span_end: a span of bytes: as many are still to come from `i` on as from the start, but for those that were passed.
use Prim.Native.Nat.{◌+◌, ◌≤◌}
use Rattle.declaring.specs.Readers.{in_class, span}
use lib.ListN.{drop, length}
use mathlib.Core.Path.{◌≡◌}
use Rattle.declaring.proofs.spans.span_end.Given as goal

abbrev pub invariant-loop-i : goal.invariant-loop-i
invariant-loop-i l = (l.from ≤ l.i) × (l.i ≤ length l.s) × (l.from + span (in_class l.class) (drop l.from l.s) ≡ l.i + span (in_class l.class) (drop l.i l.s))
