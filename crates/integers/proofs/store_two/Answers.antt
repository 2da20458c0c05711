-- `integers::store_two` meets its contract: two stores, the high digit and the low.
use lib.ListN.{length-set}
use Rattle.integers.proofs.Places.{store_two}
use native.Mathlib.Omega.{arith}
use Rattle.integers.proofs.store_two.Goals as goal

pub bounds-out-at-2 : goal.bounds-out-at-2
bounds-out-at-2 c = simp length-set (omega arith)

pub shape_of-out : goal.shape_of-out
shape_of-out c = simp length-set

pub returns : goal.returns
returns c = store_two c.args.out.now c.args.at c.args.x c.ranges.x.fits
