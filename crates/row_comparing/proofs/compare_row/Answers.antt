-- row_comparing::compare_row: what begins the row of each, then their cells (row-paired).
use mathlib.Core.Path.{refl}
use Rattle.row_comparing.proofs.Pairs.{row-paired}
use Rattle.row_comparing.specs.Clauses.{unread-first, unread-second}
use Rattle.row_reading.proofs.Parts.{begun-within, row-begun, row-unbegun}
use Rattle.table.proofs.ColumnList.{listed-length}
use Rattle.table.specs.ColumnList.{listed}
use native.Mathlib.Omega.{arith}
use Rattle.row_comparing.proofs.compare_row.Goals as goal

pub begin_row-requires : goal.begin_row-requires
begin_row-requires c =
    (c.requires.1, omega (arith, c.requires.0.some, listed-length c.args.cols), omega (arith, c.requires.0.few, listed-length c.args.cols))

pub returns-in_default : goal.returns-in_default
returns-in_default c =
    let g = c.begin_row in
    record {
      pairs_row = unread-first (row-unbegun _ (listed c.args.cols) _ (listed-length c.args.cols) _ _ _ g.ensures _ c.in_default.is);
      a_len_unchanged = refl;
      b_len_unchanged = refl;
    }

pub begin_row-requires-2 : goal.begin_row-requires-2
begin_row-requires-2 c =
    (c.requires.2, omega (arith, c.requires.0.some, listed-length c.args.cols), omega (arith, c.requires.0.few, listed-length c.args.cols))

pub returns-in_default-begin_row : goal.returns-in_default-begin_row
returns-in_default-begin_row c =
    let g = c.begin_row-2 in
    record {
      pairs_row = unread-second (row-unbegun _ (listed c.args.cols) _ (listed-length c.args.cols) _ _ _ g.ensures _ c.in_default-begin_row.is);
      a_len_unchanged = refl;
      b_len_unchanged = refl;
    }

pub compare_cells-requires : goal.compare_cells-requires
compare_cells-requires c =
    let g = c.begin_row in
    let h = c.begin_row-2 in
    let n = listed-length c.args.cols in
    let w = begun-within c.args.one.from (listed c.args.cols) _ n c.args.first.now c.args.one.at g.result g.ensures _
    c.in-Ok.is in
    let v = begun-within c.args.two.from (listed c.args.cols) _ n c.args.second.now c.args.two.at h.result h.ensures _ c.in-Ok-begin_row.is in
    (c.requires.0, w.1, v.1, c.requires.3, c.requires.4)

pub returns : goal.returns
returns c =
    let p = c.compare_cells in
    let g = c.begin_row in
    let h = c.begin_row-2 in
    let n = listed-length c.args.cols in
    record {
      pairs_row =
          row-paired c.args.one.from c.args.two.from (listed c.args.cols) _ _ c.args.first.now c.args.second.now c.args.one.at c.args.two.at
          c.in-Ok.begin.cells c.in-Ok-begin_row.other.cells c.requires.0
          (row-begun c.args.one.from (listed c.args.cols) _ n c.args.first.now c.args.one.at g.result g.ensures _ c.in-Ok.is)
          (row-begun c.args.two.from (listed c.args.cols) _ n c.args.second.now c.args.two.at h.result h.ensures _ c.in-Ok-begin_row.is)
          _ p.result p.ensures.pairs_row;
      a_len_unchanged = p.ensures.a_len_unchanged;
      b_len_unchanged = p.ensures.b_len_unchanged;
    }
