-- `flags::few_bytes` meets its contract. The loop's invariant: the bytes from the k-th on, behind those in x, spell the whole number.
use Prim.Native.Nat.{◌+◌, ◌-◌, ◌<◌, ◌^◌}
use Rattle.number.specs.Number.{of_digits}
use lib.ListN.{drop, take}
use mathlib.Core.Path.{◌≡◌}
use Rattle.flags.proofs.few_bytes.Given as goal

abbrev pub invariant-loop-b : goal.invariant-loop-b
invariant-loop-b l =
    let part = take (l.at + l.n - l.at) (drop l.at l.s) in
    (l.x < 256 ^ l.b-index) × (of_digits 256 l.x (drop l.b-index part) ≡ of_digits 256 0 part)
