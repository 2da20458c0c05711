-- `integer_reading::array_integer` meets its contract: with a zero for its minus a short word is a run of digits, whose number is that of the digits behind the minus.
use native.Mathlib.Omega.{arith}
use mathlib.Core.Bool.{Bool, not}
use mathlib.Core.List.{List, [], ◌∷◌}
use mathlib.Core.Path.{◌∙◌, ◌≡◌, refl, subst, sym}
use Prim.Native.Nat.{◌+◌, ◌-◌, ◌≤◌, ℕ}
use lib.Dec.{eqb}
use lib.IntN.{ℤ}
use mir.Facts.{to_z-of_z}
use mir.Syntax.{w64}
use mir.Val.{of_z, to_z}
use Rattle.integer_reading.proofs.Digits.{after-le, integer-in-text}
use Rattle.integer_reading.proofs.Short.{minus-fits, word-figures}
use Rattle.integer_reading.specs.Figures.{AfterMinus, FiguresAt}
use Rattle.eights.proofs.Fronts.{are-bytes}
use Rattle.moving.specs.Contents.{InText}
use Rattle.number.specs.Clauses.{is_signed, width_of}
use Rattle.number.specs.Number.{with_sign}
use Rattle.table.specs.All.{AreBytes}
use Rattle.table.specs.Shape.{Whole}
use Rattle.words.proofs.WordLaws.{top_lt}
use Rattle.integer_reading.proofs.array_integer.Goals as goal

pub overflow_sub-minus : goal.overflow_sub-minus
overflow_sub-minus c = omega (arith, after-le c.after_minus-first.ensures)

pub overflow_mul-minus : goal.overflow_mul-minus
overflow_mul-minus c = record { fits = omega (arith, after-le c.after_minus-first.ensures) }

pub overflow_add-eight_lowest : goal.overflow_add-eight_lowest
overflow_add-eight_lowest c = record { fits = omega (arith, minus-fits (omega arith) c.after_minus-first.ensures c.eight_lowest.ensures (omega arith)) }

pub with_sign-requires : goal.with_sign-requires
with_sign-requires c = omega (arith, c.top_of.ensures, top_lt c.args.integer)

pub returns : goal.returns
returns c =
    let a = c.args in
    let k = a.integer in
    let s : List ℕ = a.s.now in
    let bytes : AreBytes s = are-bytes s (λ i. omega (arith, c.shared_slice_known-1.given i)) in
    let first = c.after_minus-first in
    let eight = c.eight_lowest in
    let run = c.short_run-run in
    let places = after-le first.ensures in
    let longer : first.result - a.at + 1 ≤ run.result.count = omega (arith, c.if-count-minus.false) in
    let n : ℕ = run.result.count - (first.result - a.at) in
    let ends : first.result + n ≡ a.at + run.result.count = omega (arith, places) in
    let minus : AfterMinus (is_signed k) s a.at first.result =
    subst (λ (g : Bool). AfterMinus g s a.at first.result) c.is_signed.ensures first.ensures in
    let found : FiguresAt s first.result n run.result.number = word-figures bytes (omega arith) minus eight.ensures refl run.ensures (omega arith) n ends in
    let value : to_z w64 (of_z w64 c.with_sign.result) ≡ with_sign (not (eqb first.result a.at)) run.result.number =
    to_z-of_z {w = w64} (record { sfits = c.with_sign.type_inv }) ∙ c.with_sign.ensures in (
      subst (λ (z : ℤ). InText (Whole (is_signed k) (width_of k)) s a.at (a.at + run.result.count) (z ∷ [])) (sym value)
          (subst (λ (e : ℕ). InText (Whole (is_signed k) (width_of k)) s a.at e (with_sign (not (eqb first.result a.at)) run.result.number ∷ [])) ends
          (integer-in-text k minus found (λ z. omega arith) (omega (arith, run.ensures.few)) (omega (arith, c.top_of.ensures)))),
      omega (arith, run.ensures.few),
    )
