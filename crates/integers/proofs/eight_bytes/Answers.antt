-- `integers::eight_bytes` meets its contract: two numbers read one after the other are one.
use Rattle.integers.proofs.Places.{of-join}
use native.Mathlib.Omega.{arith}
use Rattle.integers.proofs.eight_bytes.Goals as goal

pub returns : goal.returns
returns c =
    let a = c.args in
    of-join 256 4 4 a.at a.s.now (omega arith) c.four_bytes.ensures c.four_bytes-2.ensures
