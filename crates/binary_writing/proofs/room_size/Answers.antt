-- `binary_writing::room_size` meets its contract: in each arm the length is known, and a count takes four bytes.
use Prim.Native.Nat.{◌+◌, ℕ}
use Rattle.binary_writing.proofs.Sizes.{room-counted, room-fixed}
use mathlib.Core.Path.{◌∙◌, ap, sym}
use Rattle.binary_writing.proofs.room_size.Goals as goal

pub returns-in-Fixed : goal.returns-in-Fixed
returns-in-Fixed c = c.content_bytes.ensures.0 ∙ sym (room-fixed _ _ _ c.in-Fixed.is)

pub returns-in-Bounded : goal.returns-in-Bounded
returns-in-Bounded c = ap (λ (k : ℕ). 4 + k) c.content_bytes-in-Bounded.ensures.0 ∙ sym (room-counted _ _ c.in-Bounded.is)
