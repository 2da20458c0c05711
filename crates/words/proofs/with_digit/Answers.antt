-- `words::with_digit` meets its contract, by its test.
use borrow.Author.Tests.{le-ltb, lt-ltb}
use Rattle.words.specs.Words.{capped}
use Rattle.words.proofs.with_digit.Goals as goal

pub returns-then-value-lt1000000000000000000 : goal.returns-then-value-lt1000000000000000000
unfolding capped
returns-then-value-lt1000000000000000000 c = rw (lt-ltb _ _ c.if-value-lt1000000000000000000.true)

pub returns-else-value-lt1000000000000000000 : goal.returns-else-value-lt1000000000000000000
unfolding capped
returns-else-value-lt1000000000000000000 c = rw (le-ltb _ _ c.if-value-lt1000000000000000000.false)
