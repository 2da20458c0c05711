-- `content_passing::pass_integer` meets its contract: the low bytes of the pattern of eight are those of the width, for every integer.
use mathlib.Core.Path.{◌∙◌, ap}
use native.Mathlib.Omega.{arith}
use lib.IntN.{ℤ}
use mir.Facts.{to_z-of_z}
use Rattle.content_passing.proofs.Ones.{integer-form}
use Rattle.moving.proofs.Puts.{puts-as, puts-wrote}
use Rattle.number.proofs.Laws.{length_to, size-le}
use Rattle.number.specs.Clauses.{is_signed, size, width_of}
use Rattle.number.specs.Number.{pattern, to_digits}
use Rattle.content_passing.proofs.pass_integer.Goals as goal

pub write_integer-requires : goal.write_integer-requires
write_integer-requires c = omega (arith, size-le c.args.integer)

pub returns : goal.returns
returns c =
    let a = c.args in
    puts-as (ap (λ (z : ℤ). to_digits 256 (size a.integer) (pattern 8 z)) (to_z-of_z c.ranges.z) ∙ integer-form (is_signed a.integer) (width_of a.integer) a.z)
    (puts-wrote c.write_integer.ensures (simp length_to (omega (arith, size-le a.integer))))
