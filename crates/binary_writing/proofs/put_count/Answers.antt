-- `binary_writing::put_count` meets its contract: only bounded and free columns have a count.
use Rattle.binary_writing.proofs.Sizes.{count-long, four-long}
use Rattle.binary.specs.Binary.{count_bytes}
use Rattle.table.proofs.Wrote.{wrote_as}
use mathlib.Core.Path.{refl, sym}
use native.Mathlib.Nat.{add-zero}
use native.Mathlib.Omega.{arith}
use Rattle.binary_writing.proofs.put_count.Goals as goal

pub put_four-requires : goal.put_four-requires
put_four-requires c = omega (arith, four-long _ c.args.count c.in-Bounded.is, c.requires.0)

pub returns-in-Fixed : goal.returns-in-Fixed
unfolding count_bytes
returns-in-Fixed c = rw c.in-Fixed.is (record { now-is = refl; next-is = sym (add-zero _) })

pub returns-in-Bounded : goal.returns-in-Bounded
returns-in-Bounded c = wrote_as (sym (count-long _ c.args.count c.in-Bounded.is)) c.put_four.ensures
