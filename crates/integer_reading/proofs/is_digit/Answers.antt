-- `integer_reading::is_digit` meets its contract: of every byte by computation.
use Rattle.integer_reading.proofs.Digits.{digit-test}
use Rattle.integer_reading.proofs.is_digit.Goals as goal

pub returns : goal.returns
returns c = digit-test c.args.c c.ranges.c.fits
