-- `base64_coding::decoding::next_byte` meets its contract: the byte where white space ends, which `dense` keeps.
use Rattle.base64_coding.proofs.Fours.{next-none, next-there}
use Rattle.base64_coding.proofs.decoding.next_byte.Goals as goal

pub returns-then-i-s : goal.returns-then-i-s
returns-then-i-s c = next-there _ _ _ c.skip_white-i.ensures c.if-i-s.true

pub returns : goal.returns
returns c = next-none _ _ _ c.skip_white-i.ensures c.if-i-s.false
