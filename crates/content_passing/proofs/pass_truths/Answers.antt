-- `content_passing::pass_truths` meets its contract: before each turn the letters of the first k bytes are put, and 0 stands for all having one.
use native.Mathlib.Omega.{arith}
use mathlib.Core.Path.{refl}
use Rattle.content_passing.proofs.Copies.{puts_one, puts-start}
use Rattle.content_passing.proofs.Truths.{next-found, next-letters, truths-moved}
use Rattle.moving.proofs.Puts.{puts-as, puts-before}
use Rattle.content_passing.proofs.pass_truths.Goals as goal

pub loop-k-init : goal.loop-k-init
loop-k-init c = (puts-start _ _ (omega arith), λ _. tt)

pub loop-k-preserved : goal.loop-k-preserved
loop-k-preserved c =
    let l = c.loop-k in let a = c.args in
    let found = c.truth_letter-letter.ensures in (
      puts-as (next-letters a.s.now a.at l.k _ (omega arith) found) (puts_one _ _ l.invariant.0 (omega arith) (omega arith)),
      next-found a.s.now a.at l.k l.none _ (omega arith) found l.invariant.1,
    )

pub returns-then-none-eq0 : goal.returns-then-none-eq0
returns-then-none-eq0 c =
    let l = c.loop-k in let a = c.args in
    truths-moved a.n l.k a.s.now a.row.now l.row a.at a.o _ (omega arith) (omega arith) refl (l.invariant.1 c.if-none-eq0.true) l.invariant.0

pub returns : goal.returns
returns c = puts-before c.loop-k.invariant.0
