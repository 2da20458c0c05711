-- `binary::read_count` meets its contract: in each arm the length is known.
use Rattle.binary.specs.Binary.{count_in}
use mathlib.Core.Path.{refl}
use native.Mathlib.Nat.{le_refl}
use Rattle.binary_reading.proofs.read_count.Goals as goal

pub returns-in-Fixed : goal.returns-in-Fixed
unfolding count_in
returns-in-Fixed c = rw c.in-Fixed.is (record { found = refl; within = (le_refl _, c.requires, le_refl _) })

pub returns-in-Bounded : goal.returns-in-Bounded
unfolding count_in
returns-in-Bounded c = rw c.in-Bounded.is c.count_up_to.ensures

pub returns-in-Free : goal.returns-in-Free
unfolding count_in
returns-in-Free c = rw c.in-Free.is c.count_up_to-in-Free.ensures
