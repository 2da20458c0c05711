-- `content_passing::pass_truth` meets its contract: one byte is put, that of the element.
use Prim.Native.Nat.{ℕ}
use mathlib.Core.List.{[], ◌∷◌}
use mathlib.Core.Path.{◌∙◌, ap, refl}
use native.Mathlib.Omega.{arith}
use mir.Facts.{to_z-of_z}
use Rattle.content_passing.proofs.Ones.{truths-form}
use Rattle.moving.proofs.Puts.{puts-as, puts-wrote}
use Rattle.table.specs.Cell.{truth_byte}
use Rattle.content_passing.proofs.pass_truth.Goals as goal

pub returns : goal.returns
returns c =
    puts-as (ap (λ (b : ℕ). b ∷ []) (c.truth_byte.ensures ∙ ap truth_byte (to_z-of_z c.ranges.z)) ∙ truths-form (c.args.z ∷ []))
    (puts-wrote (record { now-is = refl; next-is = omega arith }) (omega arith))
