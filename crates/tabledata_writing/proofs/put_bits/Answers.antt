-- `tabledata_writing::put_bits` meets its contract. The invariant: what is left of the bits is still to be written here.
use Prim.Native.Nat.{◌+◌, ℕ}
use native.Mathlib.Omega.{arith}
use mathlib.Core.List.{[], ◌++◌, ◌∷◌}
use mathlib.Core.Path.{◌∙◌, ◌≡◌, ap, sym}
use lib.IntN.{pos}
use lib.ListN.{drop, get_or}
use borrow.Author.Rules.{rules}
use mir.Syntax.{w64}
use mir.Val.{of_z, to_z}
use Rattle.table.specs.Shape.{Bits}
use Rattle.table.proofs.Wrote.{left-all, left-none, left-room, left_step, wrote_one}
use Rattle.tabledata_writing.proofs.Writing.{bits-joined, joined_end, joined-more}
use Rattle.tabledata.specs.TableData.{bit_text, element_bytes, joined}
use Rattle.tabledata_writing.proofs.put_bits.Goals as goal

pub loop-z-init : goal.loop-z-init
loop-z-init c = rw (← bits-joined) (left-all c.args.out.now c.args.at (element_bytes Bits c.args.bits.now))

pub bounds-out-i : goal.bounds-out-i
bounds-out-i c =
    let es = c.args.bits.now in let k = c.loop-z.z-index in
    let room = left-room c.loop-z.invariant (bit_text (get_or es k (pos 0)) ∷ []) _ (joined-more (λ z. bit_text z ∷ []) es k c.loop-z-test.true) c.requires in
    omega (arith, room)

pub loop-z-preserved : goal.loop-z-preserved
loop-z-preserved c =
    let es = c.args.bits.now in let k = c.loop-z.z-index in let z = get_or es k (pos 0) in
    let held : to_z w64 (of_z w64 z) ≡ z = search rules in
    let bit : c.bit_byte.result ≡ bit_text z = rw (← held) c.bit_byte.ensures in
    let more = joined-more (λ z. bit_text z ∷ []) es k c.loop-z-test.true ∙ ap (λ (b : ℕ). (b ∷ []) ++ joined (λ z. bit_text z ∷ []) (drop (k + 1) es)) (sym bit) in
    left_step c.loop-z.invariant more (wrote_one c.loop-z.out c.loop-z.i c.bit_byte.result)

pub returns : goal.returns
returns c = left-none c.loop-z.invariant (joined_end _ c.args.bits.now c.loop-z.z-index c.loop-z-test.false)
