-- row_writing::write_row: a row is written: what begins it, then its cells one behind the other (WriteInv: what is left to write gives the whole), then what ends it.
use Prim.Native.Nat.{◌-◌}
use mathlib.Core.Path.{◌≡◌}
use lib.ListN.{length}
use Rattle.table.specs.ColumnList.{listed}
use Rattle.row_reading.specs.Clauses.{flags_in}
use Rattle.rows.specs.Stream.{read_cell}
use Rattle.row_writing.proofs.RowForm.{WriteInv}
use Rattle.row_writing.proofs.write_row.Given as goal

abbrev pub invariant-loop-j : goal.invariant-loop-j
invariant-loop-j l =
    WriteInv (read_cell l.from) l.to (listed l.cols) (flags_in l.from l.count l.flags) l.s l.initial.out l.initial.w l.out l.w l.j × (length l.scratch ≡ length l.initial.scratch)
