-- `decimals::write_shortest` meets its contract: by the test, the digits of the magnitude, or a minus and they.
use mathlib.Core.Path.{ap}
use lib.ListN.{length, length-set}
use Rattle.decimals.proofs.Numerals.{text-down, text-up}
use Rattle.table.proofs.Wrote.{wrote_after, wrote_as}
use native.Mathlib.Omega.{arith}
use Rattle.decimals.proofs.write_shortest.Goals as goal

pub write_digits-requires : goal.write_digits-requires
write_digits-requires c = omega (arith, ap length (text-up c.args.z _ c.ranges.z c.unsigned_abs-x.ensures.value c.if-z-ge0.true), c.requires)

pub returns-then-z-ge0 : goal.returns-then-z-ge0
returns-then-z-ge0 c = wrote_as (text-up c.args.z _ c.ranges.z c.unsigned_abs-x.ensures.value c.if-z-ge0.true) c.write_digits.ensures

pub bounds-out-at : goal.bounds-out-at
bounds-out-at c = omega (arith, ap length (text-down c.args.z _ c.ranges.z c.unsigned_abs-x.ensures.value c.if-z-ge0.false), c.requires)

pub overflow_add-at : goal.overflow_add-at
overflow_add-at c = omega (arith, ap length (text-down c.args.z _ c.ranges.z c.unsigned_abs-x.ensures.value c.if-z-ge0.false), c.requires)

pub write_digits-requires-2 : goal.write_digits-requires-2
write_digits-requires-2 c =
    simp length-set (omega (arith, ap length (text-down c.args.z _ c.ranges.z c.unsigned_abs-x.ensures.value c.if-z-ge0.false), c.requires))

pub shape_of-out : goal.shape_of-out
shape_of-out c = simp length-set at c.write_digits-2.auto.out

pub returns : goal.returns
returns c = wrote_as (text-down c.args.z _ c.ranges.z c.unsigned_abs-x.ensures.value c.if-z-ge0.false) (wrote_after c.write_digits-2.ensures)
