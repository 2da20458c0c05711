-- cell_putting::put_empty: five of the eight bytes that are stored are the tag.
use mathlib.Core.List.{[], ◌∷◌}
use mathlib.Core.Path.{refl}
use Rattle.cell_putting.proofs.Stores.{puts-front}
use Rattle.number.specs.Number.{to_digits}
use Rattle.table.specs.Bytes.{bytes}
use native.Mathlib.Omega.{arith}
use Rattle.cell_putting.proofs.put_empty.Goals as goal

pub returns : goal.returns
unfolding to_digits
returns c = puts-front (bytes "<TD/>") (0 ∷ 0 ∷ 0 ∷ []) _ c.put_eight.ensures (omega arith) refl
