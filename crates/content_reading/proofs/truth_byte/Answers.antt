-- `content_reading::truth_byte` meets its contract: each byte is computed.
use native.Mathlib.Omega.{arith}
use Rattle.content_reading.proofs.Singles.{truth-byte}
use Rattle.content_reading.proofs.truth_byte.Goals as goal

pub returns : goal.returns
returns c = truth-byte c.args.number (omega arith)
