-- `words::quick_digits` meets its contract. The run behind and the run still to come are the whole run; the number is that of the digits behind.
use Prim.Native.Nat.{◌+◌, ◌-◌}
use mathlib.Core.Path.{◌≡◌}
use lib.ListN.{drop, take}
use Rattle.words.specs.Clauses.{leading_digits}
use Rattle.number.specs.Number.{digit, numeral}
use Rattle.table.specs.Result.{good}
use Rattle.words.proofs.quick_digits.Given as goal

abbrev pub invariant-loop-next : goal.invariant-loop-next
invariant-loop-next l =
    (l.next + leading_digits (l.at + 18 - l.next) (drop l.next l.s) ≡ l.at + leading_digits 18 (drop l.at l.s))
    × (numeral digit 10 0 (take (l.next - l.at) (drop l.at l.s)) ≡ good l.number)
