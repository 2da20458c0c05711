-- `content_showing::show_integer` meets its contract: the sign, then the digits of the magnitude.
use mathlib.Core.List.{◌++◌}
use mathlib.Core.Path.{◌∙◌, ap}
use Prim.Native.Nat.{ℕ}
use lib.IntN.{nat_abs}
use mir.Facts.{to_z-of_z}
use mir.Syntax.{w64}
use mir.Val.{of_z, to_z}
use Rattle.content_showing.proofs.Digits.{sign-long, signed}
use Rattle.content_showing.specs.Showing.{sign}
use Rattle.moving.proofs.Puts.{puts-as, puts_then}
use Rattle.number.specs.Number.{digits}
use native.Mathlib.Omega.{arith}
use Rattle.content_showing.proofs.show_integer.Goals as goal

pub put_number-requires : goal.put_number-requires
put_number-requires c =
    let p = c.put_sign-next.ensures in
    omega (arith, p.next-is, p.long, sign-long (to_z w64 (of_z w64 c.args.z)))

pub returns : goal.returns
returns c =
    puts-as (ap (λ (v : ℕ). sign c.args.z ++ digits 20 v) (c.unsigned_abs.ensures.value ∙ ap nat_abs (to_z-of_z c.ranges.z)) ∙ signed c.args.z)
    (puts_then (puts-as (ap sign (to_z-of_z c.ranges.z)) c.put_sign-next.ensures) c.put_number.ensures)
