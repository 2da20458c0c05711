-- `integers::eight_by_sums` meets its contract: two numbers read one after the other are one.
use Rattle.integers.proofs.Places.{of-join}
use native.Mathlib.Omega.{arith}
use Rattle.integers.proofs.eight_by_sums.Goals as goal

pub returns : goal.returns
returns c =
    let a = c.args in
    of-join 256 4 4 a.at a.s.now (omega arith) c.four_by_sums.ensures c.four_by_sums-2.ensures
