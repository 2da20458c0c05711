-- `content_showing::show_bytes` meets its contract: before each turn the first k bytes are put, a space behind each, in at most four bytes each.
use Prim.Native.Nat.{◌*◌, ◌+◌, ◌≤◌}
use Rattle.content_showing.proofs.Words.{IntegersPut}
use Rattle.number.specs.declared.Integer.TheVariants.{UnsignedByte}
use Rattle.content_showing.proofs.show_bytes.Given as goal

abbrev pub invariant-loop-k : goal.invariant-loop-k
invariant-loop-k l = (l.e ≤ l.o + 4 * l.k) × IntegersPut UnsignedByte l.s l.at l.initial.row l.o l.row (l.at + l.k) l.e l.k
