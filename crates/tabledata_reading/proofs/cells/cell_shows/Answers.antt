-- `tabledata_reading::cells::cell_shows` meets its contract: no elements, too many or too few, those that stand for null, or others.
use Prim.Native.Nat.{◌≤◌}
use native.Mathlib.Omega.{arith}
use mathlib.Core.Bool.{true}
use mathlib.Core.Path.{◌∙◌, ◌≡◌, sym}
use lib.ListN.{length, take}
use Rattle.table.specs.Cell.{bound, is_null_list, stands_for_null}
use Rattle.tabledata_reading.proofs.cells.Laws.{room-few, shown-none, shown-not, shown-null, shown-some}
use Rattle.tabledata_reading.specs.Cells.{room_and}
use Rattle.tabledata_reading.proofs.cells.cell_shows.Goals as goal

pub returns-then-count-eq0 : goal.returns-then-count-eq0
returns-then-count-eq0 c = record { found = λ rest es p. shown-none c.args.column _ p c.if-count-eq0.true; few = tt }

pub returns-then-not-count_fits : goal.returns-then-not-count_fits
returns-then-not-count_fits c = record {
  found = λ rest es p. shown-not c.args.column _ p c.if-count-eq0.false (sym c.count_fits.ensures ∙ c.if-not-count_fits.true);
  few = tt;
}

pub is_null-requires : goal.is_null-requires
is_null-requires c =
    omega (arith, room-few c.args.column c.args.count (sym c.count_fits.ensures ∙ c.if-not-count_fits.false), c.requires.0, c.requires.1)

pub returns-then-is_null : goal.returns-then-is_null
returns-then-is_null c =
    let fits : let col = c.args.column in room_and col.kind col.len c.args.count ≡ true = sym c.count_fits.ensures ∙ c.if-not-count_fits.false in
    let room : bound c.args.column.len ≤ length c.args.scratch.now = omega (arith, c.requires.0, c.requires.1) in
    let null : let a = c.args in is_null_list (stands_for_null a.column) (take a.count a.scratch.now) ≡ c.is_null.result = sym c.is_null.ensures in
    record { found = λ rest es p. shown-null c.args.column _ p c.if-count-eq0.false fits room (null ∙ c.if-is_null.true); few = tt }

pub returns : goal.returns
returns c =
    let fits : let col = c.args.column in room_and col.kind col.len c.args.count ≡ true = sym c.count_fits.ensures ∙ c.if-not-count_fits.false in
    let room : bound c.args.column.len ≤ length c.args.scratch.now = omega (arith, c.requires.0, c.requires.1) in
    let null : let a = c.args in is_null_list (stands_for_null a.column) (take a.count a.scratch.now) ≡ c.is_null.result = sym c.is_null.ensures in
    record {
      found = λ rest es p. shown-some c.args.column _ p c.if-count-eq0.false fits room (null ∙ c.if-is_null.false);
      few = omega (arith, room-few c.args.column c.args.count fits, room);
    }
