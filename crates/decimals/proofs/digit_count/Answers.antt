-- `decimals::digit_count` meets its contract: the power of ten that x reaches is one less than its digits; 0 has one.
use native.Mathlib.Numerals.{add-one}
use mathlib.Core.Path.{◌∙◌, sym}
use Rattle.number.proofs.Decimal.{count-is, count-one}
use native.Mathlib.Omega.{arith}
use native.Mathlib.Nat.{pow-succ'}
use Rattle.decimals.proofs.digit_count.Goals as goal

pub returns-in-Some : goal.returns-in-Some
returns-in-Some c =
    let e = c.in-Some.ensures in
    add-one c.in-Some.power ∙ sym (count-is c.in-Some.power c.args.x e.power_le (rw pow-succ' e.next_power_gt) (omega (arith, c.ranges.x.fits)))

pub returns-in-None : goal.returns-in-None
returns-in-None c = sym (count-one c.args.x (omega (arith, c.in-None.ensures.none)))
