-- row_writing::write_held_cell: a cell that is held is written: what stands at its place is one law of HeldForm.
use Prim.Native.Nat.{◌+◌, ◌≤◌}
use mathlib.Core.Bool.{false}
use mathlib.Core.List.{List}
use mathlib.Core.Path.{subst, sym}
use lib.IntN.{ℤ}
use lib.ListN.{drop, length, length-drop}
use Rattle.row_writing.proofs.RowForm.{form-found, rewritten}
use Rattle.row_writing.proofs.HeldForm.{held-inside, next-held, part-all, shown-inside, shown-within}
use Rattle.row_writing.specs.Clauses.{cell_bytes, held_next}
use Rattle.table.specs.Clauses.{ShownWithin, shown_as}
use Rattle.table.specs.Wrote.{Wrote}
use native.Mathlib.Omega.{arith}
use Rattle.row_writing.proofs.write_held_cell.Goals as goal

pub held_at-shown-requires : goal.held_at-shown-requires
held_at-shown-requires c = held-inside c.args.column c.args.scratch.now c.args.w.at c.requires.len_bound.1

pub overflow_add-first : goal.overflow_add-first
overflow_add-first c = omega (arith, held-inside c.args.column c.args.scratch.now c.args.w.at c.requires.len_bound.1, c.well_formed)

pub write_cell-e-requires-clause-len_bound : goal.write_cell-e-requires-clause-len_bound
write_cell-e-requires-clause-len_bound c =
    let l = c.args.scratch.now in
    let w = shown-within c.args.column l c.args.w.at _ c.held_at-shown.ensures c.requires.len_bound.1 in
    (c.requires.len_bound.0, w.0, subst (λ (m : List ℤ). ShownWithin m c.held_at-shown.result) (sym (part-all (c.args.w.at + 1) l)) w.1)

pub write_cell-e-requires-clause-scratch_in_bounds : goal.write_cell-e-requires-clause-scratch_in_bounds
write_cell-e-requires-clause-scratch_in_bounds c =
    let l = c.args.scratch.now in
    let e = next-held c.args.column l c.args.w.at _ c.held_at-shown.ensures in
    subst (λ (m : List ℤ). c.args.w.to + length (cell_bytes c.args.to c.args.column (shown_as m c.held_at-shown.result)) ≤ length c.args.out.now)
    (sym (part-all (c.args.w.at + 1) l)) (rw (← form-found c.args.to c.args.column _ _ _ e) c.requires.scratch_in_bounds)

pub overflow_add-result : goal.overflow_add-result
overflow_add-result c =
    let l = c.args.scratch.now in
    let inside = held-inside c.args.column l c.args.w.at c.requires.len_bound.1 in
    let w = shown-inside _ _ (shown-within c.args.column l c.args.w.at _ c.held_at-shown.ensures c.requires.len_bound.1).1 in
    omega (arith, w, c.unwrap_or.ensures, length-drop (c.args.w.at + 1) l, inside, c.well_formed)

pub returns : goal.returns
returns c =
    let l = c.args.scratch.now in
    let inside = held-inside c.args.column l c.args.w.at c.requires.len_bound.1 in
    let w = shown-inside _ _ (shown-within c.args.column l c.args.w.at _ c.held_at-shown.ensures c.requires.len_bound.1).1 in
    rw c.unwrap_or.ensures
    (rewritten held_next c.args.to c.args.column false l c.args.w _ _ _ _ (shown_as (drop (c.args.w.at + 1) l) c.held_at-shown.result)
    (next-held c.args.column l c.args.w.at _ c.held_at-shown.ensures) (omega (arith, w, length-drop (c.args.w.at + 1) l, inside))
    (subst (λ (m : List ℤ). Wrote c.args.out.now c.args.w.to (cell_bytes c.args.to c.args.column (shown_as m c.held_at-shown.result)) c.write_cell-e.new.out c.write_cell-e.result)
    (part-all (c.args.w.at + 1) l) c.write_cell-e.ensures))
