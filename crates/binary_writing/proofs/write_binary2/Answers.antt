-- `binary_writing::write_binary2` meets its contract: null as zeros, or the elements.
use Rattle.binary.specs.Binary.{write_binary2, zeros}
use Prim.Native.Nat.{◌+◌, ◌≤◌}
use lib.ListN.{length}
use Rattle.binary_writing.proofs.write_binary2.Goals as goal

pub put_null-requires : goal.put_null-requires
unfolding write_binary2
put_null-requires c =
    let room : c.args.at + length (zeros c.args.column) ≤ length c.args.out.now = rw c.in-None.is at c.requires.scratch_in_bounds in
    (c.requires.len_bound.0, room)

pub put_elements-requires-clause-scratch_in_bounds : goal.put_elements-requires-clause-scratch_in_bounds
unfolding write_binary2
put_elements-requires-clause-scratch_in_bounds c = rw c.in-Some.is at c.requires.scratch_in_bounds

pub returns-in-None : goal.returns-in-None
unfolding write_binary2
returns-in-None c = rw c.in-None.is c.put_null.ensures

pub returns-in-Some : goal.returns-in-Some
unfolding write_binary2
returns-in-Some c = rw c.in-Some.is c.put_elements.ensures
