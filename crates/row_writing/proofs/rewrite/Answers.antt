-- row_writing::rewrite: a cell is read once more and written: by what was found, each way is one law of RowForm.
use Rattle.table.specs.All.{AreBytes}
use Rattle.rows.specs.Stream.{read_cell}
use Rattle.row_reading.proofs.CellsFit.{bytes-of, found-up-to}
use Rattle.row_writing.proofs.RowForm.{form-found, rewritten, unwritten}
use Rattle.row_writing.proofs.rewrite.Goals as goal

pub write_cell-e-requires-clause-len_bound : goal.write_cell-e-requires-clause-len_bound
write_cell-e-requires-clause-len_bound c =
    let s = c.args.s.now in
    let f = c.in-Ok.ensures in
    let bytes : AreBytes s = bytes-of s (λ i h. (c.type_inv.s i).fits) in
    (c.requires.at_in_bounds.1, found-up-to c.args.from c.args.column c.args.flagged s c.args.w.at _ _ _ bytes f.within.2 f.found, f.within.2)

pub write_cell-e-requires-clause-scratch_in_bounds : goal.write_cell-e-requires-clause-scratch_in_bounds
write_cell-e-requires-clause-scratch_in_bounds c = rw (← form-found c.args.to c.args.column _ _ _ c.in-Ok.ensures.found) c.requires.s_in_bounds

pub returns-in-Err-clause-rewritten : goal.returns-in-Err-clause-rewritten
returns-in-Err-clause-rewritten c =
    unwritten (read_cell c.args.from) c.args.to c.args.column c.args.flagged c.args.s.now c.args.w _ _ c.in-Err.ensures.found

pub returns-in-Ok-clause-rewritten : goal.returns-in-Ok-clause-rewritten
returns-in-Ok-clause-rewritten c =
    let f = c.in-Ok.ensures in
    rewritten (read_cell c.args.from) c.args.to c.args.column c.args.flagged c.args.s.now c.args.w _ _ _ _ _ f.found f.within.1 c.write_cell-e.ensures
