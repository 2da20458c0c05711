-- `binary_writing::can_be_empty` meets its contract: in each arm the length is known.
use Rattle.binary.specs.Binary.{can_be_empty}
use Rattle.binary_writing.proofs.Sizes.{empty-counted}
use Rattle.binary_writing.proofs.can_be_empty.Goals as goal

pub returns-in-Fixed : goal.returns-in-Fixed
unfolding can_be_empty
returns-in-Fixed c = rw c.in-Fixed.is c.is_char.ensures

pub returns-in-Bounded : goal.returns-in-Bounded
returns-in-Bounded c = empty-counted _ _ c.in-Bounded.is
