-- finding::find_from: the loop over the rows before it (Skipped: what is fetched is what is fetched from here, behind those that are left), then the row;
-- each way out is one law of Finding.
use Prim.Native.Nat.{◌-◌}
use mathlib.Core.Path.{◌≡◌}
use lib.ListN.{length}
use Rattle.finding.proofs.Finding.{Skipped}
use Rattle.table.specs.ColumnList.{listed}
use Rattle.finding.proofs.find_from.Given as goal

abbrev pub invariant-loop : goal.invariant-loop
invariant-loop l = Skipped l.from (listed l.cols) l.s l.start l.before l.at (l.before - l.counter) × (length l.scratch ≡ length l.initial.scratch)
