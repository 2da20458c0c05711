-- row_reading::pass_row: what begins the row, then its cells; each way is one law of Parts.
use mathlib.Core.Path.{refl}
use Rattle.table.proofs.ColumnList.{listed-length}
use Rattle.table.specs.ColumnList.{listed}
use Rattle.row_reading.proofs.Parts.{begun-within, row-passed, row-unbegun}
use native.Mathlib.Omega.{arith}
use Rattle.row_reading.proofs.pass_row.Goals as goal

pub begin_row-requires : goal.begin_row-requires
begin_row-requires c =
    (c.requires.1, omega (arith, c.requires.0.some, listed-length c.args.cols), omega (arith, c.requires.0.few, listed-length c.args.cols))

pub pass_cells-requires : goal.pass_cells-requires
pass_cells-requires c =
    let g = c.begin_row in
    let w = begun-within c.args.from (listed c.args.cols) c.args.cols.count (listed-length c.args.cols) c.args.s.now c.args.at g.result g.ensures _
    c.in-Ok.is in
    (c.requires.0, w.1, c.requires.2)

pub returns-in-Err : goal.returns-in-Err
returns-in-Err c =
    let g = c.begin_row in
    record {
      passes_row = row-unbegun c.args.from (listed c.args.cols) c.args.cols.count (listed-length c.args.cols) c.args.s.now c.args.at g.result g.ensures _
          c.in-Err.is;
      scratch_len_unchanged = refl;
    }

pub returns-in-Ok : goal.returns-in-Ok
returns-in-Ok c =
    let g = c.begin_row in
    let p = c.pass_cells in
    record {
      passes_row = row-passed c.args.from (listed c.args.cols) c.args.cols.count (listed-length c.args.cols) c.args.s.now c.args.at g.result g.ensures _
          c.in-Ok.is
          c.requires.0 p.result p.ensures.passes_cells;
      scratch_len_unchanged = p.ensures.scratch_len_unchanged;
    }
