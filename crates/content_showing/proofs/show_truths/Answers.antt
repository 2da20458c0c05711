-- `content_showing::show_truths` meets its contract: the letters are put, and where no byte is bad they are the elements'.
use Rattle.content_showing.proofs.Truths.{truths-moved}
use Rattle.moving.proofs.Puts.{puts-before, puts_none}
use native.Mathlib.Omega.{arith}
use Rattle.content_showing.proofs.show_truths.Goals as goal

pub returns-then-row-o : goal.returns-then-row-o
returns-then-row-o c = puts_none _ _ c.requires.3

pub put_truths-requires : goal.put_truths-requires
put_truths-requires c = (c.requires.2, omega (arith, c.if-row-o.false, c.requires.3))

pub returns-then-put_truths-ne0 : goal.returns-then-put_truths-ne0
returns-then-put_truths-ne0 c = puts-before c.put_truths.ensures.puts

pub returns : goal.returns
returns c =
    truths-moved c.args.s.now c.args.at c.args.n c.requires.0 c.requires.2 (omega (arith, c.if-put_truths-ne0.false)) c.put_truths.ensures

pub overflow_add-result-2 : goal.overflow_add-result-2
overflow_add-result-2 c = record { fits = omega (arith, c.if-row-o.false, c.requires.3) }

pub overflow_sub-result : goal.overflow_sub-result
overflow_sub-result c = omega (arith, c.requires.0)
