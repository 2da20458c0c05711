-- convert::measure: a cell is read behind its place in the scratch, its count is put there, and its size is found: what is held is one law of Holding,
-- what the row is with it one of Measuring.
use Prim.Native.Nat.{◌+◌, ◌-◌, ◌<◌}
use mathlib.Core.Path.{◌∙◌, ◌≡◌, refl, subst, sym}
use mathlib.Core.List.{List}
use lib.IntN.{ℤ}
use lib.ListN.{drop, length, take}
use borrow.Rule.Slice.PartMut.{mid_of, same_len_mid}
use Rattle.convert.proofs.Holding.{back, back_long, back-part, count-then, few-in, keep, null-is}
use Rattle.convert.proofs.Measuring.{grown-of}
use Rattle.row_reading.proofs.CellsFit.{bytes-of, found-up-to}
use Rattle.row_writing.specs.Clauses.{held_cell}
use Rattle.rows.specs.Stream.{write_cell}
use Rattle.std.specs.Prelude.{unwrap_or, ◌∷◌, ℕ}
use Rattle.table.proofs.Shown.{shown-up-to}
use Rattle.table.specs.Clauses.{ShownWithin, shown_as, size_as, size_of}
use borrow.Author.Rules.{rules}
use mir.Syntax.{w64}
use mir.Val.{of_z, to_z}
use native.Mathlib.Omega.{arith}
use Rattle.convert.proofs.measure.Goals as goal

pub held_count-requires : goal.held_count-requires
held_count-requires c =
    let f = c.in_ok-found.ensures in
    let few = found-up-to c.args.from c.args.column c.args.flagged c.args.s.now c.args.at _ _ _ (bytes-of c.args.s.now (λ i h. (c.type_inv.s i).fits)) f.within.2 f.found in
    shown-up-to _ c.requires.3 few

pub size_cell-size-requires : goal.size_cell-size-requires
size_cell-size-requires c =
    let f = c.in_ok-found.ensures in
    let few = found-up-to c.args.from c.args.column c.args.flagged c.args.s.now c.args.at _ _ _ (bytes-of c.args.s.now (λ i h. (c.type_inv.s i).fits)) f.within.2 f.found in
    let fits : c.place_for-place.result < length c.args.scratch.now = omega (arith, c.place_for-place.ensures.1, c.requires.4) in
    (c.requires.3, few, subst (λ (l : List ℤ). ShownWithin l c.in_ok-found.found.shown) (sym (back-part c.place_for-place.result c.args.scratch.now _ fits f.long _)) f.within.2)

pub after-requires : goal.after-requires
after-requires c =
    let f = c.in_ok-found.ensures in
    let few = found-up-to c.args.from c.args.column c.args.flagged c.args.s.now c.args.at _ _ _ (bytes-of c.args.s.now (λ i h. (c.type_inv.s i).fits)) f.within.2 f.found in
    (c.requires.2, c.requires.1, c.size_cell-size.ensures.1, shown-up-to _ c.requires.3 few)

pub returns-clause-measured_by : goal.returns-clause-measured_by
returns-clause-measured_by c =
    let f = c.in_ok-found.ensures in
    let o = c.in_ok-found.found.shown in
    let old : List ℤ = c.args.scratch.now in
    let read : List ℤ = c.read_cell.new.scratch in
    let place : ℕ = c.place_for-place.result in
    let few = found-up-to c.args.from c.args.column c.args.flagged c.args.s.now c.args.at _ _ _ (bytes-of c.args.s.now (λ i h. (c.type_inv.s i).fits)) f.within.2 f.found in
    let fits : place < length old = omega (arith, c.place_for-place.ensures.1, c.requires.4) in
    let put : to_z w64 (of_z w64 c.held_count.result) ≡ c.held_count.result = search rules in
    let z : ℤ = to_z w64 (of_z w64 c.held_count.result) in
    let counted : z ∷ take (unwrap_or o 0) read ≡ held_cell (shown_as read o) = rw (put, c.held_count.ensures) (count-then read o f.within.2) in (
      shown_as read o,
      f.found,
      f.within.0,
      f.within.1,
      grown-of c.args.to c.args.column c.args.i c.args.m (shown_as read o) old (back place old read fits f.long z) c.after.result o c.size_cell-size.result c.after.ensures
          (subst (λ (l : List ℤ). size_as c.size_cell-size.result ≡ size_of (write_cell c.args.to c.args.column (shown_as l o))) (back-part place old read fits f.long z)
          c.size_cell-size.ensures.0) (null-is read o) (few-in c.args.column read o f.within.2 few)
          (keep place old read fits f.long z (unwrap_or o 0) (shown_as read o) counted c.args.m.held c.place_for-place.ensures.0),
    )
