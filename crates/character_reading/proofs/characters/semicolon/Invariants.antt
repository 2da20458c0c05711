-- `character_reading::characters::semicolon` meets its contract. The invariant: the text from here on is read with the name so far.
use Prim.Native.Nat.{◌-◌}
use mathlib.Core.List.{[]}
use mathlib.Core.Path.{◌≡◌}
use lib.ListN.{drop, take}
use Rattle.tabledata.specs.TableData.{characters, reference}
use Rattle.character_reading.proofs.characters.semicolon.Given as goal

abbrev pub invariant-loop-i : goal.invariant-loop-i
invariant-loop-i l = characters (reference []) (drop l.from l.s) ≡ characters (reference (take (l.i - l.from) (drop l.from l.s))) (drop l.i l.s)
