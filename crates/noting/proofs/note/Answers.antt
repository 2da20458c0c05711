-- comparing::note: two stores, where there is room for both.
use Prim.Native.Nat.{◌*◌}
use lib.ListN.{length-set}
use borrow.Author.Tests.{le-ltb, lt-ltb}
use native.Mathlib.Omega.{arith}
use Rattle.noting.proofs.note.Goals as goal

pub bounds-places-noted-then-noted-places : goal.bounds-places-noted-then-noted-places
bounds-places-noted-then-noted-places c =
    omega (arith, length-set c.args.places.now (2 * c.args.noted) c.args.row, c.if-noted-places.true)

pub returns-then-noted-places : goal.returns-then-noted-places
returns-then-noted-places c = rw (lt-ltb _ _ c.if-noted-places.true)

pub returns-else-noted-places : goal.returns-else-noted-places
returns-else-noted-places c = rw (le-ltb _ _ c.if-noted-places.false)
