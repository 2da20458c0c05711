-- declaring::columns::length_of: a length: what the digits that are left make of `n` is what all of them make.
use Prim.Native.Nat.{◌<◌, ◌^◌}
use Rattle.number.specs.Number.{digit, numeral}
use lib.ListN.{drop}
use mathlib.Core.Path.{◌≡◌}
use Rattle.declaring.proofs.columns.length_of.Given as goal

abbrev pub invariant-loop-c : goal.invariant-loop-c
invariant-loop-c l = (l.n < 10 ^ l.c-index) × (numeral digit 10 0 l.t ≡ numeral digit 10 l.n (drop l.c-index l.t))
