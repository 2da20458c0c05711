-- `integers::four_bytes` meets its contract: a byte after the number of those before it is the number of all.
use mathlib.Core.Path.{sym}
use Rattle.integers.proofs.Places.{of-next, of_one}
use native.Mathlib.Omega.{arith}
use Rattle.integers.proofs.four_bytes.Goals as goal

pub returns : goal.returns
returns c =
    let a = c.args in
    let s = a.s.now in
    let whole = of-next 256 3 a.at s (omega arith) (of-next 256 2 a.at s (omega arith) (of-next 256 1 a.at s (omega arith) (sym (of_one 256 a.at s (omega arith))))) in
    omega (arith, c.from_be_bytes.ensures, whole)
