-- `content_reading::text_truth` meets its contract: a letter that has a number spells itself and reads as that.
use native.Mathlib.Omega.{arith}
use Prim.Native.Nat.{◌+◌, ℕ}
use mathlib.Core.Path.{◌∙◌, ◌≡◌, ap, subst, sym}
use mir.Facts.{to_z_pos}
use mir.Syntax.{w64}
use mir.Val.{to_z}
use lib.ListN.{get_or}
use Rattle.content_reading.specs.Letters.{truth_number}
use lib.IntN.{ℤ, pos}
use mathlib.Core.List.{[], ◌∷◌}
use Rattle.content_reading.proofs.Singles.{truth-in-text, truth-small}
use Rattle.moving.specs.Contents.{InText}
use Rattle.table.specs.Shape.{Truths}
use Rattle.content_reading.proofs.text_truth.Goals as goal

pub returns : goal.returns
returns c =
    let a = c.args in
    let t = c.truth_number-z in
    let e : to_z w64 t.result ≡ pos (truth_number (get_or a.s.now a.at 0)) =
    to_z_pos w64 (omega (arith, t.ensures, truth-small (get_or a.s.now a.at 0))) ∙ ap (λ (n : ℕ). pos n) t.ensures in
    subst (λ (z : ℤ). InText Truths a.s.now a.at (a.at + 1) (z ∷ [])) (sym e)
    (truth-in-text a.s.now a.at (omega arith) (λ h. c.if-z-eq3.false (t.ensures ∙ h)))
