-- `lowest::four_lowest` meets its contract: a byte before others stands below the number of those.
use Prim.Native.Nat.{◌+◌}
use Rattle.lowest.proofs.Places.{lowest-join, lowest-one}
use native.Mathlib.Omega.{arith}
use Rattle.lowest.proofs.four_lowest.Goals as goal

pub overflow_cast-result : goal.overflow_cast-result
overflow_cast-result c = omega (arith, c.shared_slice_known-1.given (c.args.at + 3))

pub overflow_mul-result : goal.overflow_mul-result
overflow_mul-result c = omega (arith, c.shared_slice_known-1.given (c.args.at + 3))

pub overflow_cast-result-2 : goal.overflow_cast-result-2
overflow_cast-result-2 c = omega (arith, c.shared_slice_known-2-1.given (c.args.at + 2))

pub overflow_add-result-3 : goal.overflow_add-result-3
overflow_add-result-3 c =
    let k = c.shared_slice_known-2-1.given in
    let at = c.args.at in
    omega (arith, k (at + 2), k (at + 3))

pub overflow_mul-result-2 : goal.overflow_mul-result-2
overflow_mul-result-2 c =
    let k = c.shared_slice_known-2-1.given in
    let at = c.args.at in
    omega (arith, k (at + 2), k (at + 3))

pub overflow_cast-result-3 : goal.overflow_cast-result-3
overflow_cast-result-3 c = omega (arith, c.shared_slice_known-3-1.given (c.args.at + 1))

pub overflow_add-result-5 : goal.overflow_add-result-5
overflow_add-result-5 c =
    let k = c.shared_slice_known-3-1.given in
    let at = c.args.at in
    omega (arith, k (at + 1), k (at + 2), k (at + 3))

pub overflow_mul-result-3 : goal.overflow_mul-result-3
overflow_mul-result-3 c =
    let k = c.shared_slice_known-3-1.given in
    let at = c.args.at in
    omega (arith, k (at + 1), k (at + 2), k (at + 3))

pub overflow_cast-result-4 : goal.overflow_cast-result-4
overflow_cast-result-4 c =
    let k = c.shared_slice_known-4-1.given in
    let at = c.args.at in
    omega (arith, k at, k (at + 1), k (at + 2), k (at + 3))

pub overflow_add-result-6 : goal.overflow_add-result-6
overflow_add-result-6 c =
    let k = c.shared_slice_known-4-1.given in
    let at = c.args.at in
    omega (arith, k at, k (at + 1), k (at + 2), k (at + 3))

pub returns : goal.returns
returns c =
    let a = c.args in
    let at = a.at in
    let s = a.s.now in
    lowest-join 1 3 at (at + 1) s (omega arith) (omega arith) (lowest-one at s (omega arith))
    (lowest-join 1 2 (at + 1) (at + 2) s (omega arith) (omega arith) (lowest-one (at + 1) s (omega arith))
    (lowest-join 1 1 (at + 2) (at + 3) s (omega arith) (omega arith) (lowest-one (at + 2) s (omega arith)) (lowest-one (at + 3) s (omega arith))))
