-- row_comparing::compare_cells: the loop over columns. What is read of each row is what has been read and what is still to come (RowRead, of each
-- input), and the word's digits say which of the cells so far differ (Differing); then what ends the rows.
use Prim.Native.Nat.{◌<◌, ◌≤◌, suc}
use mathlib.Core.Bool.{Bool}
use mathlib.Core.List.{List, ◌∷◌}
use mathlib.Core.Path.{◌∙◌, ◌≡◌, refl, subst, sym}
use lib.ListN.{drop, get_or, length}
use Rattle.row_comparing.proofs.Pairs.{cells-paired, differing-more, differing-none, unread-cells}
use Rattle.row_comparing.specs.Clauses.{OneUnread, PairsRow}
use Rattle.row_reading.proofs.Parts.{listed-bound, read-end, read_more, read-start, read-stop}
use Rattle.row_reading.specs.Clauses.{cells_end, flags_in}
use Rattle.rows.specs.Stream.{read_cell}
use Rattle.table.proofs.ColumnList.{listed-length, listed_next}
use Rattle.table.specs.ColumnList.{listed, no_column}
use Rattle.table.specs.declared.Column.{Column}
use Rattle.table.specs.declared.Columns.{Columns}
use native.Mathlib.Omega.{arith}
use Rattle.row_comparing.proofs.compare_cells.Goals as goal

pub loop-i-init : goal.loop-i-init
unfolding read-start
loop-i-init c =
    let cols-of : Columns = c.args.cols in
    let flags_of : List Bool = flags_in c.args.one.from cols-of.count c.args.flags in
    let others-of : List Bool = flags_in c.args.two.from cols-of.count c.args.others in (
      read-start c.args.one.from (listed cols-of) flags_of c.args.first.now c.args.one.at c.requires.1,
      read-start c.args.two.from (listed cols-of) others-of c.args.second.now c.args.two.at c.requires.2,
      differing-none,
      refl,
      refl,
    )

pub offset_bounds-cols-i : goal.offset_bounds-cols-i
offset_bounds-cols-i c =
    let cols-of : Columns = c.args.cols in
    let few : cols-of.count ≤ 64 = omega (arith, c.requires.0.few, listed-length cols-of) in
    omega (arith, few, c.loop-i-test.true)

pub bounds-cols-i : goal.bounds-cols-i
bounds-cols-i c =
    let cols-of : Columns = c.args.cols in
    let few : cols-of.count ≤ 64 = omega (arith, c.requires.0.few, listed-length cols-of) in
    omega (arith, few, c.loop-i-test.true)

pub flag_of-flag-requires : goal.flag_of-flag-requires
flag_of-flag-requires c =
    let cols-of : Columns = c.args.cols in
    let few : cols-of.count ≤ 64 = omega (arith, c.requires.0.few, listed-length cols-of) in
    (c.loop-i-test.true, few)

pub flag_of-other-requires : goal.flag_of-other-requires
flag_of-other-requires c =
    let cols-of : Columns = c.args.cols in
    let few : cols-of.count ≤ 64 = omega (arith, c.requires.0.few, listed-length cols-of) in
    (c.loop-i-test.true, few)

pub compare_cell-requires : goal.compare_cell-requires
compare_cell-requires c =
    let cols-of : Columns = c.args.cols in
    let inv = c.loop-i.invariant in
    let bounded = listed-bound cols-of c.loop-i.i c.requires.0 c.loop-i-test.true in
    (inv.0.inside, inv.1.inside, bounded, omega (arith, inv.3, c.requires.3), omega (arith, inv.4, c.requires.4))

pub returns-in_err-pair : goal.returns-in_err-pair
returns-in_err-pair c =
    let cols-of : Columns = c.args.cols in
    let flags_of : List Bool = flags_in c.args.one.from cols-of.count c.args.flags in
    let others-of : List Bool = flags_in c.args.two.from cols-of.count c.args.others in
    let column : Column = get_or cols-of.list c.loop-i.i no_column in
    let next-column : drop c.loop-i.i (listed cols-of) ≡ column ∷ drop (suc c.loop-i.i) (listed cols-of) = listed_next cols-of c.loop-i.i c.loop-i-test.true in
    let unread : OneUnread (read_cell c.args.one.from column c.flag_of-flag.result (drop c.loop-i.at c.args.first.now))
    (read_cell c.args.two.from column c.flag_of-other.result (drop c.loop-i.place c.args.second.now))
    → OneUnread (cells_end c.args.one.from (listed cols-of) flags_of (drop c.args.one.at c.args.first.now))
    (cells_end c.args.two.from (listed cols-of) others-of (drop c.args.two.at c.args.second.now)) =
    λ h. (unread-cells c.args.one.from c.args.two.from (listed cols-of) flags_of others-of c.args.first.now c.args.second.now
    c.args.one.at c.args.two.at c.loop-i.i _ _ h
    (λ n e. read-stop c.args.one.from (listed cols-of) flags_of c.args.first.now c.args.one.at c.loop-i.at c.loop-i.i c.loop-i.invariant.0
    column next-column c.flag_of-flag.result c.flag_of-flag.ensures n e)
    (λ n e. read-stop c.args.two.from (listed cols-of) others-of c.args.second.now c.args.two.at c.loop-i.place c.loop-i.i c.loop-i.invariant.1
    column next-column c.flag_of-other.result c.flag_of-other.ensures n e)) in
    let p = c.compare_cell in
    record {
      pairs_row = subst (PairsRow _ _ _ _ _ _ _) (sym c.from_residual.ensures) (unread c.in_err-pair.ensures.pairs_cell);
      a_len_unchanged = p.ensures.a_len_unchanged ∙ c.loop-i.invariant.3;
      b_len_unchanged = p.ensures.b_len_unchanged ∙ c.loop-i.invariant.4;
    }

pub add_flag-differing-requires : goal.add_flag-differing-requires
add_flag-differing-requires c =
    let cols-of : Columns = c.args.cols in
    let few : cols-of.count ≤ 64 = omega (arith, c.requires.0.few, listed-length cols-of) in
    omega (arith, few, c.loop-i-test.true)

pub loop-i-preserved : goal.loop-i-preserved
unfolding read_more
loop-i-preserved c =
    let cols-of : Columns = c.args.cols in
    let flags_of : List Bool = flags_in c.args.one.from cols-of.count c.args.flags in
    let others-of : List Bool = flags_in c.args.two.from cols-of.count c.args.others in
    let column : Column = get_or cols-of.list c.loop-i.i no_column in
    let more : c.loop-i.i < length (listed cols-of) = omega (arith, listed-length cols-of, c.loop-i-test.true) in
    let next-column : drop c.loop-i.i (listed cols-of) ≡ column ∷ drop (suc c.loop-i.i) (listed cols-of) = listed_next cols-of c.loop-i.i c.loop-i-test.true in
    let inv = c.loop-i.invariant in
    let p = c.compare_cell in
    let f = c.flag_of-flag in
    let g = c.flag_of-other in
    let x = c.in_ok-pair.ensures.pairs_cell in (
      read_more c.args.one.from (listed cols-of) flags_of c.args.first.now c.args.one.at c.loop-i.at c.loop-i.i inv.0 column next-column f.result
          f.ensures x.x _ more x.found x.within.0 x.within.1,
      read_more c.args.two.from (listed cols-of) others-of c.args.second.now c.args.two.at c.loop-i.place c.loop-i.i inv.1 column next-column g.result
          g.ensures x.y _ more x.found-other x.within-other.0 x.within-other.1,
      differing-more inv.0.acc inv.1.acc c.loop-i.i c.loop-i.differing inv.2 x.x x.y _ _ x.shows c.add_flag-differing.ensures,
      p.ensures.a_len_unchanged ∙ inv.3,
      p.ensures.b_len_unchanged ∙ inv.4,
    )

pub end_rows-requires : goal.end_rows-requires
end_rows-requires c = (c.loop-i.invariant.0.inside, c.loop-i.invariant.1.inside)

-- all columns are read
pub returns : goal.returns
returns c =
    let cols-of : Columns = c.args.cols in
    let flags_of : List Bool = flags_in c.args.one.from cols-of.count c.args.flags in
    let others-of : List Bool = flags_in c.args.two.from cols-of.count c.args.others in
    let inv = c.loop-i.invariant in
    let end : length (listed cols-of) ≤ c.loop-i.i = omega (arith, listed-length cols-of, c.loop-i-test.false) in
    let all : cols-of.count ≡ c.loop-i.i = omega (arith, listed-length cols-of, inv.0.upto, end) in
    record {
      pairs_row = cells-paired c.args.one.from c.args.two.from (listed cols-of) flags_of others-of c.args.first.now c.args.second.now c.args.one.at c.args.two.at
          cols-of.count inv.0.acc inv.1.acc c.loop-i.at c.loop-i.place
          (read-end c.args.one.from (listed cols-of) flags_of c.args.first.now c.args.one.at c.loop-i.at c.loop-i.i inv.0 end)
          (read-end c.args.two.from (listed cols-of) others-of c.args.second.now c.args.two.at c.loop-i.place c.loop-i.i inv.1 end)
          inv.0.onward inv.1.onward c.loop-i.differing c.end_rows.result (rw all inv.2) c.end_rows.ensures;
      a_len_unchanged = inv.3;
      b_len_unchanged = inv.4;
    }
