-- `integer_reading::text_integer` meets its contract: behind a minus, or where there is none, a run of digits is a word that reads so.
use native.Mathlib.Omega.{arith}
use mathlib.Core.Path.{◌∙◌, ◌≡◌, subst, sym}
use Prim.Native.Nat.{◌+◌}
use mathlib.Core.Bool.{Bool, not}
use mathlib.Core.List.{[], ◌∷◌}
use lib.Dec.{eqb}
use lib.IntN.{ℤ}
use mir.Facts.{to_z-of_z}
use mir.Syntax.{w64}
use mir.Val.{of_z, to_z}
use Rattle.moving.specs.Contents.{InText}
use Rattle.number.specs.Clauses.{is_signed, width_of}
use Rattle.number.specs.Number.{with_sign}
use Rattle.table.specs.Shape.{Whole}
use Rattle.integer_reading.proofs.Digits.{after-le, integer-in-text}
use Rattle.integer_reading.specs.Figures.{AfterMinus}
use Rattle.words.proofs.WordLaws.{top_lt}
use Rattle.integer_reading.proofs.text_integer.Goals as goal

pub digits_at-run-requires : goal.digits_at-run-requires
digits_at-run-requires c = omega (arith, after-le c.after_minus-first.ensures)

pub with_sign-requires : goal.with_sign-requires
with_sign-requires c = omega (arith, c.top_of.ensures, top_lt c.args.integer)

pub returns : goal.returns
returns c =
    let a = c.args in
    let k = a.integer in
    let first = c.after_minus-first in
    let run = c.digits_at-run in
    let minus : AfterMinus (is_signed k) a.s.now a.at first.result =
    subst (λ (g : Bool). AfterMinus g a.s.now a.at first.result) c.is_signed.ensures first.ensures in
    let value : to_z w64 (of_z w64 c.with_sign.result) ≡ with_sign (not (eqb first.result a.at)) run.result.number =
    to_z-of_z {w = w64} (record { sfits = c.with_sign.type_inv }) ∙ c.with_sign.ensures in
    subst (λ (z : ℤ). InText (Whole (is_signed k) (width_of k)) a.s.now a.at (first.result + run.result.count) (z ∷ [])) (sym value)
    (integer-in-text k minus run.ensures.0 c.if-count-eq0.false run.ensures.1 (omega (arith, c.top_of.ensures)))
