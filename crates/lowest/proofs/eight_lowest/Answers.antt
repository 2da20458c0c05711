-- `lowest::eight_lowest` meets its contract: two numbers read one after the other are one, the first the lower half.
use Prim.Native.Nat.{◌+◌}
use Rattle.lowest.proofs.Places.{lowest-join}
use native.Mathlib.Omega.{arith}
use Rattle.lowest.proofs.eight_lowest.Goals as goal

pub returns : goal.returns
returns c =
    let a = c.args in
    omega (arith, lowest-join 4 4 a.at (a.at + 4) a.s.now (omega arith) (omega arith) c.four_lowest-2.ensures c.four_lowest.ensures)
