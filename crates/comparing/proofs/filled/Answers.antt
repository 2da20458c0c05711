-- comparing::filled: the smaller of the two.
use borrow.Author.Tests.{le-ltb, lt-ltb}
use Rattle.compare.specs.Compare.{filled}
use Rattle.comparing.proofs.filled.Goals as goal

pub returns-then-size-places : goal.returns-then-size-places
unfolding filled
returns-then-size-places c = rw (lt-ltb _ _ c.if-size-places.true)

pub returns-else-size-places : goal.returns-else-size-places
unfolding filled
returns-else-size-places c = rw (le-ltb _ _ c.if-size-places.false)
