-- `content_showing::put_pair` meets its contract: by the test, the second byte is stored over the first or behind it.
use native.Mathlib.Omega.{arith}
use lib.ListN.{length-set}
use Rattle.content_showing.proofs.Pairs.{pair_put, two-most}
use borrow.Author.Rules.{rules}
use Rattle.content_showing.proofs.put_pair.Goals as goal

pub overflow_add-row-3 : goal.overflow_add-row-3
overflow_add-row-3 c = let h = two-most c.args.v in search rules

pub bounds-row-o-2 : goal.bounds-row-o-2
bounds-row-o-2 c = simp length-set (omega (arith, two-most c.args.v))

pub overflow_add-result : goal.overflow_add-result
overflow_add-result c = let h = two-most c.args.v in search rules

pub overflow_add-result-2 : goal.overflow_add-result-2
overflow_add-result-2 c = let h = two-most c.args.v in search rules

pub returns : goal.returns
returns c = pair_put _ c.args.o c.args.v c.requires.0 c.requires.1
