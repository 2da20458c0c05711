-- cell_putting::put_open: the four bytes of the number are the tag.
use Rattle.moving.proofs.Puts.{puts-wrote}
use Rattle.number.specs.Number.{to_digits}
use native.Mathlib.Omega.{arith}
use Rattle.cell_putting.proofs.put_open.Goals as goal

pub returns : goal.returns
unfolding to_digits
returns c = puts-wrote c.put_four.ensures (omega arith)
