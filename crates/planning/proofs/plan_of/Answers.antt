-- planning::plan_of: the steps so far, and none behind them (steps_to).
use Prim.Native.Nat.{◌<◌, suc}
use native.Mathlib.Numerals.{add-one}
use mathlib.Core.List.{◌∷◌}
use mathlib.Core.Path.{◌∙◌, ◌≡◌, ap}
use lib.ListN.{drop, get_or, replicate, set}
use native.Mathlib.Omega.{arith}
use Rattle.planning.proofs.Steps.{listed-bounded, planned, steps_all, steps-more}
use Rattle.table.proofs.ColumnList.{listed-length, listed_next}
use Rattle.table.specs.ColumnList.{listed, no_column}
use Rattle.table.specs.declared.Columns.{Columns}
use Rattle.planning.proofs.plan_of.Goals as goal

pub loop-i-init : goal.loop-i-init
loop-i-init c = ap (replicate 64) c.no_step-none.ensures

pub offset_bounds-cols-i : goal.offset_bounds-cols-i
offset_bounds-cols-i c =
    let columns : Columns = c.args.cols in
    let few : c.loop-i.i < 64 = omega (arith, c.requires.few, listed-length columns) in
    record { fits = omega (arith, few) }

pub step_of-requires : goal.step_of-requires
step_of-requires c =
    let columns : Columns = c.args.cols in
    (listed-bounded columns c.loop-i.i c.requires (omega arith)).1

pub offset_bounds-list-i : goal.offset_bounds-list-i
offset_bounds-list-i c =
    let columns : Columns = c.args.cols in
    let few : c.loop-i.i < 64 = omega (arith, c.requires.few, listed-length columns) in
    record { fits = omega (arith, few) }

pub loop-i-preserved : goal.loop-i-preserved
loop-i-preserved c =
    let columns : Columns = c.args.cols in
    let few : c.loop-i.i < 64 = omega (arith, c.requires.few, listed-length columns) in
    let next-column : drop c.loop-i.i (listed columns) ≡ get_or columns.list c.loop-i.i no_column ∷ drop (suc c.loop-i.i) (listed columns) = listed_next columns c.loop-i.i (omega arith) in
    let l = c.loop-i in
    ap (set l.list l.i) c.step_of.ensures ∙ steps-more (listed columns) l.i _ l.list few next-column l.invariant ∙ rw add-one

pub returns : goal.returns
returns c =
    let l = c.loop-i in
    ap planned (l.invariant ∙ steps_all (listed c.args.cols) l.i (omega (arith, listed-length c.args.cols)))

pub bounds-cols-i : goal.bounds-cols-i
bounds-cols-i c =
    let columns : Columns = c.args.cols in
    let few : c.loop-i.i < 64 = omega (arith, c.requires.few, listed-length columns) in
    few

pub bounds-list-i : goal.bounds-list-i
bounds-list-i c =
    let columns : Columns = c.args.cols in
    let few : c.loop-i.i < 64 = omega (arith, c.requires.few, listed-length columns) in
    few
