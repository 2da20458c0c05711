-- `content_copying::most_digits` meets its contract: by the largest integer of each kind.
use lib.Dec.{lit≤}
use Rattle.content_copying.proofs.most_digits.Goals as goal

pub returns-in-UnsignedByte : goal.returns-in-UnsignedByte
returns-in-UnsignedByte c = rw c.in-UnsignedByte.is (record { range = lit≤ tt; few = lit≤ tt })

pub returns-in-Short : goal.returns-in-Short
returns-in-Short c = rw c.in-Short.is (record { range = lit≤ tt; few = lit≤ tt })

pub returns-in-Int : goal.returns-in-Int
returns-in-Int c = rw c.in-Int.is (record { range = lit≤ tt; few = lit≤ tt })

pub returns-in-Long : goal.returns-in-Long
returns-in-Long c = rw c.in-Long.is (record { range = lit≤ tt; few = lit≤ tt })
