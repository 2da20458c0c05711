-- `content_passing::pass_truths` meets its contract: before each turn the letters of the first k bytes are put, and 0 stands for all having one.
use Prim.Native.Nat.{◌+◌}
use mathlib.Core.List.{map}
use mathlib.Core.Path.{◌≡◌}
use lib.ListN.{drop, take}
use Rattle.content_passing.proofs.Truths.{HasLetter, letter}
use Rattle.moving.specs.Puts.{Puts}
use Rattle.table.specs.All.{All}
use Rattle.content_passing.proofs.pass_truths.Given as goal

abbrev pub invariant-loop-k : goal.invariant-loop-k
invariant-loop-k l =
    Puts l.initial.row l.o (map letter (take l.k (drop l.at l.s))) l.row (l.o + l.k) × (l.none ≡ 0 → All HasLetter (take l.k (drop l.at l.s)))
