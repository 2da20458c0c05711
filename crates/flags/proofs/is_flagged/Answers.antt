-- `flags::is_flagged` meets its contract: a digit of the flags.
use Prim.Native.Nat.{ℕ}
use Rattle.flags.proofs.FlagLaws.{digit_at}
use lib.Dec.{eqb}
use mathlib.Core.Path.{ap, sym}
use native.Mathlib.Omega.{arith}
use Rattle.flags.proofs.is_flagged.Goals as goal

pub overflow_sub-result : goal.overflow_sub-result
overflow_sub-result c = omega arith

pub overflow_sub-result-2 : goal.overflow_sub-result-2
overflow_sub-result-2 c = omega arith

pub returns : goal.returns
returns c =
    let a = c.args in
    ap (λ (d : ℕ). eqb d 1) (sym (digit_at a.columns a.k a.flags c.requires.0))
