-- `binary_writing::bit_of` meets its contract: an element is compared by its bits.
use Rattle.binary_writing.proofs.Writing.{bit-zero}
use Rattle.binary.specs.Binary.{bit_of}
use lib.Dec.{lit<}
use mathlib.Core.Path.{◌∙◌, ap, sym}
use mir.Facts.{to_z-of_z}
use mir.Syntax.{w64}
use mir.Val.{of_z, to_z}
use Rattle.binary_writing.proofs.bit_of.Goals as goal

pub returns-then-z-eq1 : goal.returns-then-z-eq1
unfolding bit_of
returns-then-z-eq1 c = (sym (ap bit_of (sym (to_z-of_z {w = w64} c.ranges.z) ∙ ap (to_z w64) c.if-z-eq1.true)), lit< tt)

pub returns-else-z-eq1 : goal.returns-else-z-eq1
returns-else-z-eq1 c = (bit-zero c.args.z (λ e. c.if-z-eq1.false (ap (of_z w64) e)), lit< tt)
