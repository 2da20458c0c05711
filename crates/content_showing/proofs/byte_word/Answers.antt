-- `content_showing::byte_word` meets its contract: by computation over the bytes.
use lib.Dec.{leb}
use Rattle.content_showing.proofs.Text.{bit_le}
use Rattle.content_showing.proofs.Words.{byte-word-is}
use native.Mathlib.Omega.{arith}
use Rattle.content_showing.proofs.byte_word.Goals as goal

pub overflow_sub-result : goal.overflow_sub-result
overflow_sub-result c = omega (arith, bit_le (leb 10 c.args.b), bit_le (leb 100 c.args.b))

pub overflow_add-more : goal.overflow_add-more
overflow_add-more c = record { fits = omega (arith, overflow_sub-result c) }

pub overflow_mul-result : goal.overflow_mul-result
overflow_mul-result c = record { fits = omega (arith, overflow_sub-result c) }

pub returns : goal.returns
returns c = byte-word-is c.args.b c.ranges.b.fits
