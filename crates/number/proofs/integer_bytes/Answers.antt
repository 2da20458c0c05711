-- number::integer_bytes: in each arm the kind is known, so its width is.
use native.Mathlib.Omega.{arith}
use Rattle.number.proofs.integer_bytes.Goals as goal

pub returns-in-UnsignedByte : goal.returns-in-UnsignedByte
returns-in-UnsignedByte c = (rw c.in-UnsignedByte.is, omega arith)

pub returns-in-Short : goal.returns-in-Short
returns-in-Short c = (rw c.in-Short.is, omega arith)

pub returns-in-Int : goal.returns-in-Int
returns-in-Int c = (rw c.in-Int.is, omega arith)

pub returns-in-Long : goal.returns-in-Long
returns-in-Long c = (rw c.in-Long.is, omega arith)
