-- `content_reading::read_whole` meets its contract: bytes have a way of their own.
use Rattle.content_reading.proofs.read_whole.Goals as goal

pub returns-in-UnsignedByte : goal.returns-in-UnsignedByte
returns-in-UnsignedByte c = rw c.in-UnsignedByte.is c.read_bytes.ensures
