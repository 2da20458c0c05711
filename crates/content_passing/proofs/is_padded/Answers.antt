-- `content_passing::is_padded` meets its contract: the bits behind the n-th are the low bits of the last byte.
use Prim.Native.Nat.{◌+◌, ◌-◌, ◌/◌}
use native.Mathlib.Omega.{arith}
use Rattle.binary.proofs.Digits.{some_of, unit-some}
use Rattle.binary.specs.Binary.{bit_bytes}
use Rattle.content_passing.proofs.Padding.{none-spare, spare-at}
use Rattle.content_passing.proofs.is_padded.Goals as goal

pub returns-then-spare-eq0 : goal.returns-then-spare-eq0
unfolding bit_bytes
returns-then-spare-eq0 c = let a = c.args in none-spare a.s.now a.at a.n (omega arith) (omega arith)

pub bounds-s-at : goal.bounds-s-at
unfolding bit_bytes
bounds-s-at c = omega (arith, some_of _ c.if-spare-eq0.false)

pub overflow_cast-result : goal.overflow_cast-result
overflow_cast-result c = let a = c.args in record { fits = omega (arith, c.shared_slice_known-1.given (a.at + (a.n + 7) / 8 - 1)) }

pub nonzero_rem-result : goal.nonzero_rem-result
nonzero_rem-result c = unit-some _ (omega arith)

pub returns : goal.returns
unfolding bit_bytes
returns c = let a = c.args in spare-at a.s.now a.at a.n (omega arith) c.if-spare-eq0.false
