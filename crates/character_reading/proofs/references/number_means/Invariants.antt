-- `character_reading::references::number_means` meets its contract. The invariant: the numeral is what its rest gives with the value so
-- far, which n digits keep below 16 ^ n.
use Prim.Native.Nat.{◌<◌, ◌^◌}
use mathlib.Core.Path.{◌≡◌}
use lib.ListN.{drop}
use Rattle.number.specs.Number.{numeral}
use Rattle.character_reading.specs.References.{base_in, value_in}
use Rattle.character_reading.proofs.references.number_means.Given as goal

abbrev pub invariant-loop-c : goal.invariant-loop-c
invariant-loop-c l =
    (l.value < 16 ^ l.c-index)
    × (numeral (value_in l.hex) (base_in l.hex) 0 l.digits ≡ numeral (value_in l.hex) (base_in l.hex) l.value (drop l.c-index l.digits))
