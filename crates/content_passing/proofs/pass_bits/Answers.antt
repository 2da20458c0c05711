-- `content_passing::pass_bits` meets its contract: bytes whose padding is 0 are put as they stand.
use native.Mathlib.Omega.{arith}
use mathlib.Core.Path.{◌∙◌, refl, sym}
use Rattle.binary.specs.Binary.{bit_bytes}
use Rattle.content_passing.proofs.Padding.{bits-moved}
use Rattle.eights.proofs.Fronts.{are-bytes}
use Rattle.moving.proofs.Puts.{puts_none}
use Rattle.table.specs.All.{AreBytes}
use Rattle.content_passing.proofs.pass_bits.Goals as goal

pub returns-then-not-is_padded : goal.returns-then-not-is_padded
returns-then-not-is_padded c = puts_none _ _ (omega arith)

pub copy-end-requires : goal.copy-end-requires
unfolding bit_bytes
copy-end-requires c = (omega arith, omega arith)

pub returns : goal.returns
unfolding bit_bytes
returns c =
    let a = c.args in
    let bytes : AreBytes a.s.now = are-bytes a.s.now (λ i. omega (arith, c.shared_slice_known-1.given i)) in
    bits-moved a.n _ a.s.now a.row.now _ a.at a.o _ bytes refl (omega arith)
    (sym c.is_padded.ensures ∙ c.if-not-is_padded.false) c.copy-end.ensures
