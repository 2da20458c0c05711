-- `content_showing::byte_size` meets its contract: by computation over the bytes.
use lib.Dec.{leb}
use Rattle.content_showing.proofs.Text.{bit_le}
use Rattle.content_showing.proofs.Words.{byte-size-is}
use native.Mathlib.Omega.{arith}
use Rattle.content_showing.proofs.byte_size.Goals as goal

pub returns : goal.returns
returns c = (byte-size-is c.args.b c.ranges.b.fits, omega (arith, bit_le (leb 10 c.args.b), bit_le (leb 100 c.args.b)))

pub overflow_add-result : goal.overflow_add-result
overflow_add-result c = record { fits = omega (arith, (returns c).1) }

pub overflow_add-result-2 : goal.overflow_add-result-2
overflow_add-result-2 c = record { fits = omega (arith, (returns c).1) }
