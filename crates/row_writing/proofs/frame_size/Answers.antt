-- row_writing::frame_size: what begins the row and what ends it, added.
use native.Mathlib.Omega.{arith}
use Rattle.row_writing.proofs.frame_size.Goals as goal

pub returns : goal.returns
returns c = (omega (arith, c.start_size.ensures.0, c.end_size.ensures.0), λ nulls. omega (arith, c.start_size.ensures.1 nulls, c.end_size.ensures.1))
