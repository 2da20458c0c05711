-- joining::join: the loop over parts. What is joined of all of them is what is joined so far, and then those from here on.
use Prim.Native.Nat.{◌*◌, ◌-◌, ◌/◌}
use mathlib.Core.Path.{◌≡◌}
use lib.ListN.{drop, length}
use Rattle.parts.specs.Join.{join, parts_in}
use Rattle.joining.proofs.join.Given as goal

abbrev pub invariant-loop-numbers : goal.invariant-loop-numbers
invariant-loop-numbers l =
    let count = length l.parts / 9 in let i = l.numbers-index in
    join l.length l.room l.initial.j (parts_in count l.parts) ≡ join l.length l.room l.j (parts_in (count - i) (drop (i * 9) l.parts))
