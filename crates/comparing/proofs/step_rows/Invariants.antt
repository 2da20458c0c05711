-- comparing::step_rows: the loop over rows (SteppedTo); each way out and each turn is one law of Stepping.
use Prim.Native.Nat.{◌-◌, ◌≤◌}
use mathlib.Core.Logic.{inl}
use mathlib.Core.Path.{◌∙◌, ◌≡◌, refl, subst, sym}
use lib.ListN.{length}
use Rattle.comparing.proofs.Stepping.{SteppedTo, step_end, step-more, step_start, stopped, unread-left}
use Rattle.row_comparing.specs.Clauses.{PairsRow}
use Rattle.table.proofs.ColumnList.{listed-length}
use Rattle.table.specs.ColumnList.{listed}
use borrow.Author.Rules.{rules}
use native.Mathlib.Omega.{arith}
use Rattle.comparing.proofs.step_rows.Given as goal

abbrev pub invariant-loop-cols : goal.invariant-loop-cols
invariant-loop-cols l =
    SteppedTo l.from l.kind (listed l.cols) l.first l.second l.initial.here l.initial.places l.places l.differing l.here l.same × (length l.places ≡ length l.initial.places)
    × (length l.a ≡ length l.initial.a) × (length l.b ≡ length l.initial.b)

abbrev pub decreases-loop-cols : goal.decreases-loop-cols
decreases-loop-cols l = length l.first - l.here.first
