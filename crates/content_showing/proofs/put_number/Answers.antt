-- `content_showing::put_number` meets its contract: by its size.
use native.Mathlib.Omega.{arith}
use Rattle.content_showing.proofs.put_number.Goals as goal

pub put_short-requires : goal.put_short-requires
put_short-requires c = (omega arith, omega arith)
