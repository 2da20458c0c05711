-- `content_showing::put_bits` meets its contract: before each turn the bits of the first k bytes are put.
use Prim.Native.Nat.{◌*◌, ◌+◌}
use lib.ListN.{drop, take}
use Rattle.content_showing.specs.Showing.{bit_letters}
use Rattle.moving.specs.Puts.{Puts}
use Rattle.content_showing.proofs.put_bits.Given as goal

abbrev pub invariant-loop-k : goal.invariant-loop-k
invariant-loop-k l = Puts l.initial.row l.o (bit_letters (take l.k (drop l.at l.s))) l.row (l.o + 8 * l.k)
