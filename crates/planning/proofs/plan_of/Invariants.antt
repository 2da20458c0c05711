-- planning::plan_of: the steps so far, and none behind them (steps_to).
use mathlib.Core.Path.{◌≡◌}
use Rattle.planning.proofs.Steps.{steps_to}
use Rattle.table.specs.ColumnList.{listed}
use Rattle.planning.proofs.plan_of.Given as goal

abbrev pub invariant-loop-i : goal.invariant-loop-i
invariant-loop-i l = l.list ≡ steps_to (listed l.cols) l.i
