-- `content_showing::show_bits` meets its contract: all bits of the bytes are put, and the first n count.
use mathlib.Core.Path.{◌∙◌, sym}
use Rattle.content_showing.proofs.Bits.{bit-bytes, bits-moved}
use Rattle.moving.proofs.Puts.{puts_none}
use native.Mathlib.Omega.{arith}
use Rattle.content_showing.proofs.show_bits.Goals as goal

pub returns-then-row-o : goal.returns-then-row-o
returns-then-row-o c = puts_none _ _ c.requires.3

pub is_padded-requires : goal.is_padded-requires
is_padded-requires c = (c.requires.1, c.requires.2)

pub returns-then-not-is_padded : goal.returns-then-not-is_padded
returns-then-not-is_padded c = puts_none _ _ c.requires.3

pub put_bits-requires : goal.put_bits-requires
put_bits-requires c =
    (omega (arith, c.requires.2, bit-bytes c.args.n), omega (arith, c.if-row-o.false, c.requires.3))

pub returns : goal.returns
returns c =
    let a = c.args in
    bits-moved a.s.now a.at a.n (omega (arith, c.requires.2, bit-bytes a.n))
    (sym c.is_padded.ensures ∙ c.if-not-is_padded.false) c.put_bits.ensures

pub overflow_add-result : goal.overflow_add-result
overflow_add-result c = record { fits = omega (arith, c.requires.2, bit-bytes c.args.n) }

pub overflow_add-result-2 : goal.overflow_add-result-2
overflow_add-result-2 c = record { fits = omega (arith, c.if-row-o.false, c.requires.3) }
