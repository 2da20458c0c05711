-- `base64_letters::encoding::put4` meets its contract.
use native.Mathlib.Omega.{arith}
use native.Mathlib.Numerals.{towards_suc}
use lib.ListN.{length-set}
use Rattle.base64_letters.proofs.encoding.put4.Goals as goal

pub bounds-out-o-2 : goal.bounds-out-o-2
bounds-out-o-2 c = simp length-set (omega arith)

pub bounds-out-o-3 : goal.bounds-out-o-3
bounds-out-o-3 c = simp length-set (omega arith)

pub bounds-out-o-4 : goal.bounds-out-o-4
bounds-out-o-4 c = simp length-set (omega arith)

pub returns : goal.returns
returns c = simp towards_suc
