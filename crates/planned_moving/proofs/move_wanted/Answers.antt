-- planned_moving::move_wanted: by what the column's step wants, which is of a fixed column (of-fixed).
use Rattle.std.specs.Prelude.{Some}
use Prim.Native.Nat.{◌≤◌}
use mathlib.Core.Bool.{false≢true, true}
use mathlib.Core.Path.{◌∙◌, ◌≡◌, ap, subst, sym}
use native.Mathlib.Omega.{arith}
use lib.Dec.{lit≤}
use Rattle.binary.specs.Binary.{content_bytes}
use Rattle.binary_moving.proofs.Counted.{size-most}
use Rattle.eights.proofs.Fronts.{are-bytes}
use Rattle.planned_moving.proofs.Planned.{OfFixed, fixed_moved, integer-wanted, of-fixed, passed-moved, wants_bytes, wants_integer}
use Rattle.planning.specs.Plan.{step_of}
use Rattle.planning.specs.declared.Step.{Step}
use Rattle.planning.specs.declared.Want.{Want}
use Rattle.rows.specs.Bounds.{Bounded}
use Rattle.table.specs.All.{AreBytes}
use Rattle.table.specs.Cell.{bound, is_one, is_scalar}
use Rattle.table.specs.Shape.{shape}
use Rattle.table.specs.declared.Column.{Column}
use Rattle.table.specs.declared.Len.{Len}
use Rattle.planned_moving.proofs.move_wanted.Goals as goal

pub move_integer-requires : goal.move_integer-requires
move_integer-requires c =
    (omega (arith, c.requires.0, size-most c.in-Integer.integer), omega (arith, c.requires.1))

-- a fixed column has some elements
some : (c : Column) (f : OfFixed c) → Bounded c → 1 ≤ f.n
some c f b = subst (λ (l : Len). 1 ≤ bound l) f.len_is b.0

pub returns-in-Bytes : goal.returns-in-Bytes
returns-in-Bytes c =
    let m = c.move_bytes in
    let bytes : AreBytes c.args.s.now = are-bytes c.args.s.now (λ i. omega (arith, c.shared_slice_known-1.given i)) in
    λ from column t b q.
    let w : (step_of column).want ≡ Some Want.Bytes = sym (ap (λ (y : Step). y.want) q) ∙ c.in_ok-step.was ∙ ap Some c.in-Bytes.is in
    let f = of-fixed column (Some Want.Bytes) w (λ z. false≢true (ap wants_bytes z)) in
    passed-moved from c.args.to column f.n c.args.step.bytes c.args.s.now c.args.at c.args.row.now c.args.o m.new.row m.result t f.len_is (some column f b)
    (sym f.want_is ∙ w) (ap (λ (y : Step). y.bytes) q ∙ f.bytes-is) bytes (omega (arith, c.requires.0)) m.ensures

pub returns-in-Integer : goal.returns-in-Integer
returns-in-Integer c =
    let integer = c.in-Integer.integer in
    let m = c.move_integer in
    λ from column t b q.
    let w : (step_of column).want ≡ Some (Want.Integer integer) = sym (ap (λ (y : Step). y.want) q) ∙ c.in_ok-step.was ∙ ap Some c.in-Integer.is in
    let f = of-fixed column (Some (Want.Integer integer)) w (λ z. false≢true (ap wants_integer z)) in
    let i = integer-wanted column.kind f.n integer (sym f.want_is ∙ w) in
    let len : column.len ≡ Len.Fixed 1 = f.len_is ∙ ap Len.Fixed i.0 in
    let one : is_scalar column ≡ true = ap is_one len in
    let size : c.args.step.bytes ≡ content_bytes (shape column.kind) 1 = ap (λ (y : Step). y.bytes) q ∙ f.bytes-is ∙ ap (content_bytes (shape column.kind)) i.0 in
    let null : column.null ≡ c.args.step.null = sym (ap (λ (y : Step). y.null) q ∙ f.null_is) in
    fixed_moved from c.args.to column 1 c.args.s.now c.args.at c.args.row.now c.args.o m.new.row m.result t len (lit≤ tt) (omega (arith, size, c.requires.0))
    (m.ensures from column one i.1 null)
