-- indexing::enter_rows: the loop over rows (RowsEntered: the index of the whole stream is the entries so far and what going on from here gives); each
-- way out is one law of Entering.
use Prim.Native.Nat.{◌-◌}
use mathlib.Core.Bool.{false}
use mathlib.Core.Path.{◌∙◌, ◌≡◌, ap, refl, subst, sym}
use lib.ListN.{drop, length}
use Rattle.indexing.proofs.Entering.{RowsEntered, enter-end, enter-lacks, enter-more, enter-start, enter-stop, entered-at-long, entered-long}
use Rattle.row_reading.specs.Clauses.{PassesRow}
use Rattle.rows.specs.Stream.{at_end}
use Rattle.table.specs.ColumnList.{listed}
use borrow.Author.Rules.{rules}
use borrow.Author.Tests.{not-false, not-true}
use native.Mathlib.Omega.{arith}
use Rattle.indexing.proofs.enter_rows.Given as goal

abbrev pub invariant-loop-cols : goal.invariant-loop-cols
invariant-loop-cols l =
    RowsEntered l.from (listed l.cols) l.s l.initial.index l.at l.rows l.index × (length l.scratch ≡ length l.initial.scratch)

abbrev pub decreases-loop-cols : goal.decreases-loop-cols
decreases-loop-cols l = length l.s - l.at
