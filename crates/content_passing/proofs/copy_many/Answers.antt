-- `content_passing::copy_many` meets its contract: before each turn the first k bytes are put.
use Prim.Native.Nat.{◌+◌, ℕ}
use native.Mathlib.Omega.{arith}
use mathlib.Core.Path.{◌≡◌, subst, sym}
use lib.ListN.{drop, take}
use Rattle.content_passing.proofs.Copies.{next-taken, puts_one, puts-start}
use Rattle.moving.proofs.Puts.{puts-as}
use Rattle.moving.specs.Puts.{Puts}
use Rattle.content_passing.proofs.copy_many.Goals as goal

pub loop-k-init : goal.loop-k-init
loop-k-init c = puts-start _ _ (omega arith)

pub loop-k-preserved : goal.loop-k-preserved
loop-k-preserved c =
    let l = c.loop-k in let a = c.args in
    puts-as (sym (next-taken a.s.now a.from l.k (omega arith))) (puts_one _ _ l.invariant (omega arith) (omega arith))

pub returns : goal.returns
returns c =
    let l = c.loop-k in let a = c.args in
    let e : l.k ≡ a.n = omega arith in
    subst (λ (j : ℕ). Puts a.row.now a.o (take j (drop a.from a.s.now)) l.row (a.o + j)) e l.invariant
