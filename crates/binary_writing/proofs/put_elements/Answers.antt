-- `binary_writing::put_elements` meets its contract: the count, then the content, with room for as many as the column has.
use Rattle.table.specs.Shape.{shape}
use Prim.Native.Nat.{ℕ}
use Rattle.binary_writing.proofs.Sizes.{elements-length, has_room}
use Rattle.binary_writing.proofs.Writing.{elements-as}
use Rattle.binary.specs.Clauses.{filled_bytes}
use Rattle.binary_writing.specs.Clauses.{elements_size}
use Rattle.table.proofs.Wrote.{wrote_as, wrote_then_lem}
use lib.ListN.{length}
use mathlib.Core.Path.{ap}
use native.Mathlib.Omega.{arith}
use Rattle.binary_writing.proofs.put_elements.Goals as goal

pub put_count-next-requires : goal.put_count-next-requires
unfolding elements_size
put_count-next-requires c =
    let p = c.requires in
    (omega (arith, elements-length c.args.column c.args.elements.now p.len_bound.1, p.scratch_in_bounds), omega (arith, p.len_bound.0, p.len_bound.1))

pub put_content-requires : goal.put_content-requires
unfolding elements_size
put_content-requires c =
    let a = c.args in let p = c.requires in let m = length a.elements.now in
    let q = c.room_in.ensures in let w = c.put_count-next in
    let s = ap (λ (n : ℕ). filled_bytes (shape a.column.kind) n m) q in (
      omega (arith, q, has_room a.column.len m p.len_bound.1),
      omega (arith, elements-length a.column a.elements.now p.len_bound.1, p.scratch_in_bounds, w.ensures.next-is, w.auto.out, s),
    )

pub returns : goal.returns
returns c = wrote_as (elements-as c.args.column _ c.args.elements.now c.room_in.ensures) (wrote_then_lem c.put_count-next.ensures c.put_content.ensures)
