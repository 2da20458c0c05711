-- row_moving::begin_flags: the front of eight bytes is the number of the bytes of flags.
use mathlib.Core.Path.{refl}
use native.Mathlib.Omega.{arith}
use Rattle.binary.proofs.Digits.{unit-some}
use Rattle.binary.specs.Binary.{bit_bytes}
use Rattle.flags.proofs.FlagLaws.{are-bytes}
use Rattle.row_moving.proofs.Beginning.{begins-flags}
use Rattle.row_moving.proofs.begin_flags.Goals as goal

pub nonzero_rem-x : goal.nonzero_rem-x
nonzero_rem-x c = unit-some _ (omega (arith, c.requires.2))

pub nonzero_div-result : goal.nonzero_div-result
nonzero_div-result c = unit-some _ (omega (arith, c.requires.2))

pub returns-then-x-unit-eq0 : goal.returns-then-x-unit-eq0
unfolding bit_bytes
returns-then-x-unit-eq0 c =
    let b = are-bytes c.args.s.now (λ i. omega (arith, c.shared_slice_known-1.given i)) in
    begins-flags c.args.count _ c.args.at c.args.s.now refl (omega (arith, c.requires.2)) b c.requires.0 c.eight_bytes.result c.eight_bytes.ensures c.if-x-unit-eq0.true
