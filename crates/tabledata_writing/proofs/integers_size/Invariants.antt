-- `tabledata_writing::integers_size` meets its contract. The invariant: the size so far and that of what is left are the whole's.
use Prim.Native.Nat.{◌*◌, ◌+◌, ◌≤◌, ℕ}
use mathlib.Core.List.{List, ◌∷◌}
use mathlib.Core.Path.{◌≡◌}
use lib.IntN.{ℤ}
use lib.ListN.{drop, length}
use Rattle.number.specs.Number.{shortest}
use Rattle.tabledata.specs.TableData.{joined}
use Rattle.tabledata_writing.proofs.integers_size.Given as goal

abbrev pub words : List ℤ → List ℕ
words es = joined (λ z. 32 ∷ shortest z) es

abbrev pub invariant-loop-z : goal.invariant-loop-z
invariant-loop-z l = (l.size ≤ 8 + 22 * l.z-index) × (8 + length (words l.integers) ≡ l.size + length (words (drop l.z-index l.integers)))
