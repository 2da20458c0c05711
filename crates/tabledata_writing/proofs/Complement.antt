-- A pattern x of the upper half, taken from the greatest one and then from -1, is the number that two's complement has for x: high_is of number, once
-- over the machine's width.
use Prim.Native.Nat.{◌-◌, ◌<◌, ◌^◌, ◌≤◌, ℕ}
use native.Mathlib.Omega.{arith}
use mathlib.Core.Bool.{true}
use mathlib.Core.Path.{◌∙◌, ◌≡◌}
use lib.IntN.{◌-ℤ◌, negsuc}
use borrow.Author.Tests.{le-ltb}
use mir.Syntax.{Width}
use mir.Val.{Fits, bits, hbits, of_z, to_z}
use mir.ValLaws.{pow-bits}
use Rattle.number.proofs.Signed.{high_is}
use Rattle.number.specs.Number.{of_pattern}
use Rattle.table.specs.Shape.{half}

module _ (w : Width) (v : ℕ) (e : 256 ^ v ≡ 2 ^ bits w) where
  halves : half v ≡ 2 ^ hbits w
  unfolding half
  halves = rw (e, pow-bits w) (omega arith)

  module _ (x : ℕ) (high : 2 ^ hbits w ≤ x) (f : Fits w x) where
    below : (2 ^ bits w - 1) - x < 2 ^ hbits w
    below = omega (arith, pow-bits w, f.fits)

    pub upper_is : to_z w (of_z w (negsuc 0 -ℤ to_z w ((2 ^ bits w - 1) - x))) ≡ of_pattern true v x
    unfolding of_pattern
    upper_is = high_is w ((2 ^ bits w - 1) - x) below ∙ rw (halves, le-ltb _ _ high, e)
