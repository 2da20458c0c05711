-- `flags::flag_bytes` meets its contract.
use Rattle.binary.specs.Binary.{bit_bytes}
use mathlib.Core.Path.{refl}
use native.Mathlib.Omega.{arith}
use Rattle.flags.proofs.flag_bytes.Goals as goal

pub overflow_add-result : goal.overflow_add-result
overflow_add-result c = omega arith

pub returns : goal.returns
unfolding bit_bytes
returns c = (refl, omega arith)
