-- `content_showing::show_truth` meets its contract: its byte is stored.
use mathlib.Core.List.{List, [], ◌∷◌}
use mathlib.Core.Path.{◌∙◌, ap}
use Prim.Native.Nat.{ℕ}
use mir.Facts.{to_z-of_z}
use Rattle.content_showing.proofs.Stores.{puts-byte}
use Rattle.moving.proofs.Puts.{puts-as}
use Rattle.table.specs.Cell.{truth_byte}
use Rattle.content_showing.proofs.show_truth.Goals as goal

pub returns : goal.returns
returns c =
    puts-as (ap {B = List ℕ} (λ (b : ℕ). b ∷ []) (c.truth_byte.ensures ∙ ap truth_byte (to_z-of_z c.ranges.z))) (puts-byte _ _ _ c.requires)
