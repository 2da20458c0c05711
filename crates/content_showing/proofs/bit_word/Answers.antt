-- `content_showing::bit_word` meets its contract: by computation over the bytes.
use Rattle.content_showing.proofs.Bits.{bit-word-fits, bit-word-is}
use Rattle.content_showing.proofs.bit_word.Goals as goal

pub overflow_add-result : goal.overflow_add-result
overflow_add-result c = record { fits = bit-word-fits c.args.b }

pub returns : goal.returns
returns c = bit-word-is c.args.b c.ranges.b.fits
