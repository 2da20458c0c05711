-- `element_reading::numerals::quick_word` meets its contract: plain digits, then a space or just the end.
use Prim.Native.Nat.{◌+◌}
use mathlib.Core.Path.{◌∙◌, ◌≡◌, subst, sym}
use lib.IntN.{ℤ}
use borrow.Author.Rules.{rules}
use mir.Syntax.{w64}
use mir.Val.{of_z, to_z}
use Rattle.std.specs.Prelude.{Some}
use Rattle.element_reading.proofs.numerals.Laws.{quick-cut, quick-last}
use Rattle.element_reading.specs.Words.{QuickWordIs}
use Rattle.element_reading.specs.declared.pieces.Piece.TheVariants.{Cut, Last}
use Rattle.words.proofs.QuickLaws.{quick-at}
use Rattle.element_reading.proofs.numerals.quick_word.Goals as goal

pub returns-then-is_space : goal.returns-then-is_space
returns-then-is_space c =
    let a = c.args in
    let integer : let z = c.in_ok-z.z in z ≡ to_z w64 (of_z w64 z) = let z = c.in_ok-z.z in let e : to_z w64 (of_z w64 z) ≡ z = search rules in sym e in
    subst (λ (z : ℤ). QuickWordIs a.kind a.source a.s.now a.from (Some (Cut z (c.in_ok-z.end + 1)))) integer
    (record { found = quick-cut (quick-at a.kind a.s.now a.from c.if-s-from.false _ _ (sym c.in_ok-z.ensures)) (sym c.is_space.ensures ∙ c.if-is_space.true) })

pub ends_at-requires : goal.ends_at-requires
ends_at-requires c = (quick-at c.args.kind c.args.s.now c.args.from c.if-s-from.false _ _ (sym c.in_ok-z.ensures)).within

pub returns : goal.returns
returns c =
    let a = c.args in
    let integer : let z = c.in_ok-z.z in z ≡ to_z w64 (of_z w64 z) = let z = c.in_ok-z.z in let e : to_z w64 (of_z w64 z) ≡ z = search rules in sym e in
    subst (λ (z : ℤ). QuickWordIs a.kind a.source a.s.now a.from (Some (Last z c.in_ok-next.next))) integer
    (record { found = quick-last (quick-at a.kind a.s.now a.from c.if-s-from.false _ _ (sym c.in_ok-z.ensures)) c.in_ok-next.ensures })
