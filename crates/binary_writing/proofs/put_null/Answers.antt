-- `binary_writing::put_null` meets its contract: a count of 0, then zeros.
use Rattle.table.specs.Shape.{shape}
use Prim.Native.Nat.{zero-le}
use Rattle.binary_writing.proofs.Sizes.{zeros-length}
use Rattle.binary_writing.proofs.Writing.{zeros-as}
use Rattle.binary.specs.Binary.{content_bytes}
use Rattle.binary_writing.specs.Clauses.{room_size}
use Rattle.table.proofs.Wrote.{wrote_as, wrote_then_lem}
use mathlib.Core.Path.{◌∙◌, ap}
use native.Mathlib.Omega.{arith}
use Rattle.binary_writing.proofs.put_null.Goals as goal

pub put_count-next-requires : goal.put_count-next-requires
unfolding room_size
put_count-next-requires c = (omega (arith, zeros-length c.args.column, c.requires.1), zero-le)

pub put_zeros-requires : goal.put_zeros-requires
unfolding room_size
put_zeros-requires c =
    let a = c.args in
    let s = c.content_bytes-size.ensures.0 ∙ ap (content_bytes (shape a.column.kind)) c.room_in.ensures in
    omega (arith, zeros-length a.column, c.requires.1, c.put_count-next.ensures.next-is, c.put_count-next.auto.out, s)

pub returns : goal.returns
returns c =
    let a = c.args in
    let s = c.content_bytes-size.ensures.0 ∙ ap (content_bytes (shape a.column.kind)) c.room_in.ensures in
    wrote_as (zeros-as a.column _ s) (wrote_then_lem c.put_count-next.ensures c.put_zeros.ensures)
