-- `content_reading::truth_number` meets its contract: at most one test holds, and the sum is computed of every byte.
use Prim.Native.Nat.{◌*◌, ◌+◌, ◌<◌}
use native.Mathlib.Omega.{arith}
use lib.Dec.{eqb}
use mir.Val.{bool_byte}
use Rattle.content_reading.proofs.Singles.{lies, sum_is, sum-small, truths}
use Rattle.content_reading.proofs.truth_number.Goals as goal

pub overflow_add-truth : goal.overflow_add-truth
overflow_add-truth c =
    let small : let x = c.args.c in truths x * 2 + lies x * 3 + bool_byte (eqb x 63) < 4 = sum-small c.args.c c.ranges.c.fits in
    record { fits = omega (arith, small) }

pub overflow_add-lie : goal.overflow_add-lie
overflow_add-lie c =
    let small : let x = c.args.c in truths x * 2 + lies x * 3 + bool_byte (eqb x 63) < 4 = sum-small c.args.c c.ranges.c.fits in
    record { fits = omega (arith, small) }

pub overflow_mul-result : goal.overflow_mul-result
overflow_mul-result c =
    let small : let x = c.args.c in truths x * 2 + lies x * 3 + bool_byte (eqb x 63) < 4 = sum-small c.args.c c.ranges.c.fits in
    record { fits = omega (arith, small) }

pub overflow_sub-result : goal.overflow_sub-result
overflow_sub-result c =
    let small : let x = c.args.c in truths x * 2 + lies x * 3 + bool_byte (eqb x 63) < 4 = sum-small c.args.c c.ranges.c.fits in
    omega (arith, small)

pub overflow_mul-result-2 : goal.overflow_mul-result-2
overflow_mul-result-2 c =
    let small : let x = c.args.c in truths x * 2 + lies x * 3 + bool_byte (eqb x 63) < 4 = sum-small c.args.c c.ranges.c.fits in
    record { fits = omega (arith, small) }

pub overflow_sub-result-2 : goal.overflow_sub-result-2
overflow_sub-result-2 c =
    let small : let x = c.args.c in truths x * 2 + lies x * 3 + bool_byte (eqb x 63) < 4 = sum-small c.args.c c.ranges.c.fits in
    omega (arith, small)

pub overflow_sub-result-3 : goal.overflow_sub-result-3
overflow_sub-result-3 c =
    let small : let x = c.args.c in truths x * 2 + lies x * 3 + bool_byte (eqb x 63) < 4 = sum-small c.args.c c.ranges.c.fits in
    omega (arith, small)

pub returns : goal.returns
returns c = sum_is c.args.c c.ranges.c.fits
