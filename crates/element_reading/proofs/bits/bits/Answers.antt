-- `element_reading::bits::bits` meets its contract. The invariant: what was passed over has one word so far, of the bits in the scratch.
use mathlib.Core.List.{[]}
use mathlib.Core.Path.{◌∙◌, subst, sym}
use borrow.Author.Rules.{rules}
use mir.Facts.{to_z-of_z}
use mir.Syntax.{w64}
use Rattle.table.proofs.Failures.{handed-on}
use Rattle.table.specs.Shape.{Bits}
use Rattle.element_reading.proofs.bits.Laws.{bits-passed, bits-read, bits-spoilt, bits-start, bits-to-end}
use Rattle.element_reading.proofs.elements.Laws.{read-broken, read-end, read_none}
use Rattle.element_reading.specs.Elements.{BitIs}
use Rattle.character_reading.proofs.characters.Laws.{read-as}
use Rattle.element_reading.proofs.bits.bits.Goals as goal

pub loop-next-init : goal.loop-next-init
loop-next-init c = read_none ([], bits-start) (search rules)

pub returns-in_err-next : goal.returns-in_err-next
returns-in_err-next c = read-broken c.loop-next.invariant Bits (handed-on c.from_residual.ensures.1) c.in_err-next.ensures.found

pub returns-in-End : goal.returns-in-End
returns-in-End c =
    let r = c.loop-next.invariant in
    read-end r Bits (read-as c.args.source c.args.s.now c.loop-next.i c.in-End.is c.in_ok-next.ensures) (bits-to-end r.means)

pub loop-next-preserved-then-is_white : goal.loop-next-preserved-then-is_white
loop-next-preserved-then-is_white c =
    bits-passed c.loop-next.invariant (read-as c.args.source c.args.s.now c.loop-next.i c.in-Code.is c.in_ok-next.ensures) (sym c.is_white.ensures ∙ c.if-is_white.true)

pub returns-in_default : goal.returns-in_default
returns-in_default c =
    bits-spoilt c.loop-next.invariant (read-as c.args.source c.args.s.now c.loop-next.i c.in-Code.is c.in_ok-next.ensures)
    (sym c.is_white.ensures ∙ c.if-is_white.false) (subst (BitIs _ _) c.in_default.is c.bit_of.ensures) c.spoiled.ensures

pub loop-next-preserved : goal.loop-next-preserved
loop-next-preserved c =
    let stored = to_z-of_z {w = w64} (record { sfits = c.as_element.type_inv }) ∙ c.as_element.ensures in
    bits-read c.loop-next.invariant (read-as c.args.source c.args.s.now c.loop-next.i c.in-Code.is c.in_ok-next.ensures)
    c.in-Some.ensures c.put.ensures stored
