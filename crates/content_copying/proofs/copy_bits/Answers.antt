-- `content_copying::copy_bits` meets its contract: the run of bits is copied.
use native.Mathlib.Omega.{arith}
use Rattle.content_copying.proofs.Bits.{bits-moved}
use Rattle.moving.proofs.Puts.{puts_none}
use borrow.Author.Rules.{rules}
use Rattle.content_copying.proofs.copy_bits.Goals as goal

pub overflow_sub-n : goal.overflow_sub-n
overflow_sub-n c = c.run_end-end.ensures.low

pub returns-then-n-eq0 : goal.returns-then-n-eq0
returns-then-n-eq0 c = puts_none _ _ (omega arith)

pub overflow_sub-s : goal.overflow_sub-s
overflow_sub-s c = c.run_end-end.ensures.high

pub returns-then-s-end-lt8 : goal.returns-then-s-end-lt8
returns-then-s-end-lt8 c = puts_none _ _ (omega arith)

pub overflow_add-n : goal.overflow_add-n
overflow_add-n c = let h = c.run_end-end.ensures.high in search rules

pub returns-then-row-first : goal.returns-then-row-first
returns-then-row-first c = puts_none _ _ (omega arith)

pub copy_wide-e-requires : goal.copy_wide-e-requires
copy_wide-e-requires c = let p = c.run_end-end.ensures in (omega (arith, p.low, p.high), omega arith)

pub shape_of-row : goal.shape_of-row
shape_of-row c = c.copy_wide-e.ensures.long

pub returns : goal.returns
returns c =
    bits-moved c.run_end-end.ensures c.if-n-eq0.false c.copy_wide-e.ensures
