-- `row_moving::put_few` meets its contract: before each turn the first k bytes are put.
use mathlib.Core.Path.{◌≡◌}
use lib.ListN.{length, take}
use lib.Seq.{sets}
use Rattle.row_moving.proofs.put_few.Given as goal

abbrev pub invariant-loop-k : goal.invariant-loop-k
invariant-loop-k l = (length l.out ≡ length l.initial.out) × (l.out ≡ sets l.initial.out l.at (take l.k l.row))
