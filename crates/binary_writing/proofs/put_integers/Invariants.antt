-- `binary_writing::put_integers` meets its contract, once over the width. The invariant: what is left of the integers is still to be written here.
use Rattle.binary.specs.Binary.{groups}
use Rattle.number.specs.Clauses.{size}
use Rattle.number.specs.Number.{pattern}
use Rattle.table.proofs.Wrote.{Left}
use lib.ListN.{drop}
use mathlib.Core.List.{map}
use Rattle.binary_writing.proofs.put_integers.Given as goal

abbrev pub invariant-loop-z : goal.invariant-loop-z
invariant-loop-z l =
    Left l.initial.out l.at (groups (size l.kind) (map (pattern 8) l.integers)) l.out l.o (groups (size l.kind) (map (pattern 8) (drop l.z-index l.integers)))
