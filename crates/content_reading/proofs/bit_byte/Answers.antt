-- `content_reading::bit_byte` meets its contract: the bits at the front are read and shifted to the top of the byte.
use native.Mathlib.Omega.{arith}
use Rattle.content_reading.proofs.Packing.{bit_byte}
use Rattle.content_reading.proofs.bit_byte.Goals as goal

pub returns : goal.returns
returns c = bit_byte _ _ _ _ (omega arith) c.leading_figures.ensures c.binary_of.ensures
