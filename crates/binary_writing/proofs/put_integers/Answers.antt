-- `binary_writing::put_integers` meets its contract, once over the width. The invariant: what is left of the integers is still to be written here.
use Rattle.binary_writing.proofs.Writing.{groups-end, groups-next, length-integers}
use Rattle.number.proofs.Laws.{length_to}
use Rattle.number.specs.Clauses.{size}
use Rattle.number.specs.Number.{pattern, to_digits}
use Rattle.table.proofs.Wrote.{left-none, left-room, left_step, wrote_as}
use borrow.Author.Rules.{rules}
use lib.IntN.{pos, ℤ}
use lib.ListN.{get_or}
use mathlib.Core.Path.{◌≡◌, ap}
use mir.Syntax.{w64}
use mir.Val.{of_z, to_z}
use native.Mathlib.Omega.{arith}
use Rattle.binary_writing.proofs.put_integers.Goals as goal

pub write_integer-o-requires : goal.write_integer-o-requires
write_integer-o-requires c =
    let es = c.args.integers.now in let k = c.loop-z.z-index in let w = size c.args.kind in let z = get_or es k (pos 0) in
    let room = left-room c.loop-z.invariant (to_digits 256 w (pattern 8 z)) _ (groups-next w es k c.loop-z-test.true) (omega (arith, c.requires, length-integers w es)) in
    omega (arith, room, length_to 256 w (pattern 8 z))

pub loop-z-preserved : goal.loop-z-preserved
loop-z-preserved c =
    let es = c.args.integers.now in let k = c.loop-z.z-index in let w = size c.args.kind in let z = get_or es k (pos 0) in
    let held : to_z w64 (of_z w64 z) ≡ z = search rules in
    left_step c.loop-z.invariant (groups-next w es k c.loop-z-test.true) (wrote_as (ap (λ (e : ℤ). to_digits 256 w (pattern 8 e)) held) c.write_integer-o.ensures)

pub returns : goal.returns
returns c = left-none c.loop-z.invariant (groups-end (size c.args.kind) c.args.integers.now c.loop-z.z-index c.loop-z-test.false)
