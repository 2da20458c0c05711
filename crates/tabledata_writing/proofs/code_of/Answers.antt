-- `tabledata_writing::code_of` meets its contract: what is below 0 or beyond 127 has no form, whichever it is.
use Prim.Native.Nat.{◌<◌}
use mathlib.Core.Path.{◌∙◌, ◌≡◌, ap, sym}
use native.Mathlib.Omega.{arith}
use lib.Dec.{lit≤}
use lib.IntN.{nat_abs, pos}
use mir.Facts.{to_z-of_z}
use mir.Syntax.{w64}
use mir.Val.{of_z, to_z}
use Rattle.tabledata_writing.proofs.Writing.{code_is, form-negative, form-over}
use Rattle.tabledata.specs.TableData.{form_of}
use Rattle.tabledata_writing.proofs.code_of.Goals as goal

pub returns-then-z-lt0 : goal.returns-then-z-lt0
returns-then-z-lt0 c =
    let held : to_z w64 (of_z w64 c.args.z) ≡ c.args.z = to_z-of_z c.ranges.z in
    (ap form_of (sym held) ∙ form-negative _ c.if-z-lt0.true, lit≤ tt)

pub returns-then-z-ge128 : goal.returns-then-z-ge128
returns-then-z-ge128 c =
    let held : to_z w64 (of_z w64 c.args.z) ≡ c.args.z = to_z-of_z c.ranges.z in
    (ap form_of (sym held) ∙ form-over _ c.if-z-ge128.true, lit≤ tt)

pub overflow_cast-result : goal.overflow_cast-result
overflow_cast-result c =
    let small : let z = to_z w64 (of_z w64 c.args.z) in (z ≡ pos (nat_abs z)) × (nat_abs z < 128) = code_is _ c.if-z-lt0.false c.if-z-ge128.false in
    (rw small.0 tt, record { fits = omega (arith, small.1) })

pub returns : goal.returns
returns c =
    let held : to_z w64 (of_z w64 c.args.z) ≡ c.args.z = to_z-of_z c.ranges.z in
    let small : let z = to_z w64 (of_z w64 c.args.z) in (z ≡ pos (nat_abs z)) × (nat_abs z < 128) = code_is _ c.if-z-lt0.false c.if-z-ge128.false in
    (ap form_of (sym held ∙ small.0), omega (arith, small.1))
