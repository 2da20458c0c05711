-- `binary_writing::size_binary2` meets its contract: zeros for null, or the elements.
use Rattle.binary_writing.proofs.Sizes.{held-length, zeros-length}
use Rattle.binary.specs.Binary.{write_binary2}
use Prim.Native.Nat.{◌≤◌}
use Rattle.table.specs.Cell.{bound}
use lib.ListN.{length}
use mathlib.Core.Path.{◌∙◌, sym}
use Rattle.binary_writing.proofs.size_binary2.Goals as goal

pub returns-in-None : goal.returns-in-None
unfolding write_binary2
returns-in-None c = rw c.in-None.is (c.room_size.ensures ∙ sym (zeros-length c.args.column))

pub returns-in-Some : goal.returns-in-Some
unfolding write_binary2
returns-in-Some c =
    let few : c.in-Some.count ≤ bound c.args.column.len = rw c.in-Some.is at c.requires.1 in
    let within : c.in-Some.count ≤ length c.args.scratch.now = rw c.in-Some.is at c.requires.2 in
    rw c.in-Some.is (c.elements_size.ensures ∙ sym (held-length c.args.column c.in-Some.count c.args.scratch.now few within))
