-- `binary::read_integers` meets its contract, once over the width. The loop's invariant: the integers from the k-th on, put from k on, make the whole.
use Prim.Native.Nat.{◌*◌, ◌-◌, ◌≤◌}
use Rattle.binary.specs.Reading.{integers}
use Rattle.number.specs.Clauses.{is_signed, size}
use lib.ListN.{drop, length}
use lib.Seq.{sets}
use mathlib.Core.Path.{◌≡◌}
use Rattle.binary_reading.proofs.read_integers.Given as goal

abbrev pub invariant-loop-k : goal.invariant-loop-k
invariant-loop-k l =
    (l.k ≤ l.n) × (length l.scratch ≡ length l.initial.scratch)
    × (sets l.scratch l.k (integers (is_signed l.kind) (size l.kind) (l.n - l.k) (drop (l.k * size l.kind) l.part)) ≡ sets l.initial.scratch 0 (integers (is_signed l.kind) (size l.kind) l.n l.part))
