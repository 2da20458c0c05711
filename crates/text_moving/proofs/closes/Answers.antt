-- `text_moving::closes` meets its contract: four bytes and one more are those of the bare end tag.
use mathlib.Core.Bool.{false≢true}
use borrow.Author.Tests.{eqb-true}
use Rattle.eights.proofs.Fronts.{are-bytes}
use Rattle.table.specs.All.{AreBytes}
use Rattle.text_moving.proofs.Tags.{closes_at}
use native.Mathlib.Omega.{arith}
use Rattle.text_moving.proofs.closes.Goals as goal

pub returns-then-s-at-lt5 : goal.returns-then-s-at-lt5
returns-then-s-at-lt5 c = λ e. absurd (false≢true e)

pub returns-then-four_bytes-ne1009734724 : goal.returns-then-four_bytes-ne1009734724
returns-then-four_bytes-ne1009734724 c = λ e. absurd (false≢true e)

pub returns : goal.returns
returns c =
    let bytes : AreBytes c.args.s.now = are-bytes c.args.s.now (λ i. omega (arith, c.shared_slice_known-1.given i)) in
    λ e. closes_at _ _ _ bytes (omega arith) c.four_bytes.ensures c.if-four_bytes-ne1009734724.false (eqb-true _ 62 e)
