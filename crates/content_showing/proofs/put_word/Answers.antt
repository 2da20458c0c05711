-- `content_showing::put_word` meets its contract: the integer is put, and a space behind it.
use mathlib.Core.List.{◌++◌, ◌∷◌, []}
use mathlib.Core.Path.{ap}
use lib.IntN.{ℤ}
use mir.Facts.{to_z-of_z}
use mir.Syntax.{w64}
use mir.Val.{of_z, to_z}
use Rattle.content_showing.proofs.Stores.{puts-byte}
use Rattle.moving.proofs.Puts.{puts-as, puts_then}
use Rattle.number.proofs.Decimal.{shortest-most}
use Rattle.number.specs.Number.{shortest}
use native.Mathlib.Omega.{arith}
use Rattle.content_showing.proofs.put_word.Goals as goal

pub bounds-row-next : goal.bounds-row-next
bounds-row-next c =
    let p = c.show_integer-next.ensures in
    omega (arith, p.next-is, p.long, shortest-most (to_z w64 (of_z w64 c.args.z)))

pub returns : goal.returns
returns c =
    let p = c.show_integer-next.ensures in
    puts-as (ap (λ (z : ℤ). shortest z ++ (32 ∷ [])) (to_z-of_z c.ranges.z))
    (puts_then p (puts-byte _ _ 32 (omega (arith, p.next-is, p.long, shortest-most (to_z w64 (of_z w64 c.args.z))))))
