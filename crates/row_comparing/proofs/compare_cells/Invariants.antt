-- row_comparing::compare_cells: the loop over columns. What is read of each row is what has been read and what is still to come (RowRead, of each
-- input), and the word's digits say which of the cells so far differ (Differing); then what ends the rows.
use Prim.Native.Nat.{◌-◌}
use mathlib.Core.Path.{◌≡◌}
use lib.ListN.{length}
use Rattle.row_comparing.proofs.Pairs.{Differing}
use Rattle.row_reading.proofs.Parts.{RowRead}
use Rattle.row_reading.specs.Clauses.{flags_in}
use Rattle.table.specs.ColumnList.{listed}
use Rattle.row_comparing.proofs.compare_cells.Given as goal

abbrev pub invariant-loop-i : goal.invariant-loop-i
invariant-loop-i l =
    (k : RowRead l.from (listed l.cols) (flags_in l.from l.count l.flags) l.first l.initial.at l.at l.i)
    × (m : RowRead l.kind (listed l.cols) (flags_in l.kind l.count l.others) l.second l.initial.place l.place l.i)
    × Differing k.acc m.acc l.i l.differing
    × (length l.a ≡ length l.initial.a)
    × (length l.b ≡ length l.initial.b)
