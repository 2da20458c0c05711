-- row_writing::write_cell: a cell is written by the writer of its kind of rows.
use Prim.Native.Nat.{◌+◌, ◌≤◌}
use mathlib.Core.Path.{subst}
use lib.ListN.{length}
use Rattle.table.specs.declared.Rows.{Rows}
use Rattle.table.specs.Clauses.{shown_as}
use Rattle.row_writing.specs.Clauses.{cell_bytes}
use Rattle.row_writing.proofs.write_cell.Goals as goal

pub write_text-requires : goal.write_text-requires
unfolding cell_bytes
write_text-requires c = (
  c.requires.len_bound.2,
  subst (λ (r : Rows). c.args.at + length (cell_bytes r c.args.column (shown_as c.args.scratch.now c.args.shown)) ≤ length
      c.args.out.now) c.in-TableData.is c.requires.scratch_in_bounds,
)

pub write_binary-requires : goal.write_binary-requires
unfolding cell_bytes
write_binary-requires c =
    record {
      len_bound = c.requires.len_bound;
      scratch_in_bounds = subst (λ (r : Rows). c.args.at + length (cell_bytes r c.args.column (shown_as c.args.scratch.now c.args.shown)) ≤ length
          c.args.out.now) c.in-Binary.is c.requires.scratch_in_bounds;
    }

pub write_binary2-requires : goal.write_binary2-requires
unfolding cell_bytes
write_binary2-requires c =
    record {
      len_bound = c.requires.len_bound;
      scratch_in_bounds = subst (λ (r : Rows). c.args.at + length (cell_bytes r c.args.column (shown_as c.args.scratch.now c.args.shown)) ≤ length
          c.args.out.now) c.in-Binary2.is c.requires.scratch_in_bounds;
    }

pub returns-in-TableData : goal.returns-in-TableData
unfolding cell_bytes
returns-in-TableData c =
    rw c.in-TableData.is c.write_text.ensures

pub returns-in-Binary : goal.returns-in-Binary
unfolding cell_bytes
returns-in-Binary c =
    rw c.in-Binary.is c.write_binary.ensures

pub returns-in-Binary2 : goal.returns-in-Binary2
unfolding cell_bytes
returns-in-Binary2 c =
    rw c.in-Binary2.is c.write_binary2.ensures
