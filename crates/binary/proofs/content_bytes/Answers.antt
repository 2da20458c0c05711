-- `binary::content_bytes` meets its contract: in each arm the kind is known, so its shape is.
use Rattle.binary.specs.Binary.{bit_bytes, content_bytes}
use native.Mathlib.Omega.{arith}
use Rattle.binary.proofs.content_bytes.Goals as goal

pub returns-in-Boolean : goal.returns-in-Boolean
unfolding content_bytes bit_bytes
returns-in-Boolean c = (rw c.in-Boolean.is, omega arith)

pub returns-in-Bit : goal.returns-in-Bit
unfolding content_bytes bit_bytes
returns-in-Bit c = (rw c.in-Bit.is (omega arith), omega arith)

pub returns-in-UnsignedByte : goal.returns-in-UnsignedByte
unfolding content_bytes bit_bytes
returns-in-UnsignedByte c = (rw c.in-UnsignedByte.is (omega arith), omega arith)

pub returns-in-Short : goal.returns-in-Short
unfolding content_bytes bit_bytes
returns-in-Short c = (rw c.in-Short.is, omega arith)

pub returns-in-Int : goal.returns-in-Int
unfolding content_bytes bit_bytes
returns-in-Int c = (rw c.in-Int.is, omega arith)

pub returns-in-Long : goal.returns-in-Long
unfolding content_bytes bit_bytes
returns-in-Long c = (rw c.in-Long.is, omega arith)

pub returns-in-Char : goal.returns-in-Char
unfolding content_bytes bit_bytes
returns-in-Char c = (rw c.in-Char.is, omega arith)
