-- number::elements_of: in each arm the kind is known, and both views of it compute.
use Rattle.number.proofs.elements_of.Goals as goal

pub returns-in-UnsignedByte : goal.returns-in-UnsignedByte
returns-in-UnsignedByte c = rw c.in-UnsignedByte.is

pub returns-in-Short : goal.returns-in-Short
returns-in-Short c = rw c.in-Short.is

pub returns-in-Int : goal.returns-in-Int
returns-in-Int c = rw c.in-Int.is

pub returns-in-Long : goal.returns-in-Long
returns-in-Long c = rw c.in-Long.is
