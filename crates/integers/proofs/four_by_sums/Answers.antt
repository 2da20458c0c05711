-- `integers::four_by_sums` meets its contract: a byte after the number of those before it is the number of all.
use Prim.Native.Nat.{◌+◌}
use mathlib.Core.Path.{sym}
use Rattle.integers.proofs.Places.{of-next, of_one}
use native.Mathlib.Omega.{arith}
use Rattle.integers.proofs.four_by_sums.Goals as goal

pub overflow_cast-result : goal.overflow_cast-result
overflow_cast-result c = omega (arith, c.shared_slice_known-1.given c.args.at)

pub overflow_mul-result : goal.overflow_mul-result
overflow_mul-result c = omega (arith, c.shared_slice_known-1.given c.args.at)

pub overflow_cast-result-2 : goal.overflow_cast-result-2
overflow_cast-result-2 c = omega (arith, c.shared_slice_known-2-1.given (c.args.at + 1))

pub overflow_add-result-2 : goal.overflow_add-result-2
overflow_add-result-2 c =
    let k = c.shared_slice_known-2-1.given in
    let at = c.args.at in
    omega (arith, k at, k (at + 1))

pub overflow_mul-result-2 : goal.overflow_mul-result-2
overflow_mul-result-2 c =
    let k = c.shared_slice_known-2-1.given in
    let at = c.args.at in
    omega (arith, k at, k (at + 1))

pub overflow_cast-result-3 : goal.overflow_cast-result-3
overflow_cast-result-3 c = omega (arith, c.shared_slice_known-3-1.given (c.args.at + 2))

pub overflow_add-result-4 : goal.overflow_add-result-4
overflow_add-result-4 c =
    let k = c.shared_slice_known-3-1.given in
    let at = c.args.at in
    omega (arith, k at, k (at + 1), k (at + 2))

pub overflow_mul-result-3 : goal.overflow_mul-result-3
overflow_mul-result-3 c =
    let k = c.shared_slice_known-3-1.given in
    let at = c.args.at in
    omega (arith, k at, k (at + 1), k (at + 2))

pub overflow_cast-result-4 : goal.overflow_cast-result-4
overflow_cast-result-4 c =
    let k = c.shared_slice_known-4-1.given in
    let at = c.args.at in
    omega (arith, k at, k (at + 1), k (at + 2), k (at + 3))

pub overflow_add-result-6 : goal.overflow_add-result-6
overflow_add-result-6 c =
    let k = c.shared_slice_known-4-1.given in
    let at = c.args.at in
    omega (arith, k at, k (at + 1), k (at + 2), k (at + 3))

pub returns : goal.returns
returns c =
    let a = c.args in
    let s = a.s.now in
    of-next 256 3 a.at s (omega arith)
    (of-next 256 2 a.at s (omega arith)
    (of-next 256 1 a.at s (omega arith) (sym (of_one 256 a.at s (omega arith)))))
