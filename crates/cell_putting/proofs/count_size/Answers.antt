-- cell_putting::count_size: by the shape of the length.
use mathlib.Core.Path.{refl}
use lib.Dec.{lit≤}
use Rattle.binary.specs.Binary.{count_bytes}
use Rattle.number.proofs.Laws.{length_to}
use Rattle.cell_putting.proofs.count_size.Goals as goal

pub returns-in-Fixed : goal.returns-in-Fixed
unfolding count_bytes
returns-in-Fixed c = rw c.in-Fixed.is (lit≤ tt, λ count. refl)

pub returns-in-Bounded : goal.returns-in-Bounded
unfolding count_bytes
returns-in-Bounded c = rw c.in-Bounded.is (lit≤ tt, λ count. length_to 256 4 count)

pub returns-in-Free : goal.returns-in-Free
unfolding count_bytes
returns-in-Free c = rw c.in-Free.is (lit≤ tt, λ count. length_to 256 4 count)
