-- `element_reading::chars::chars` meets its contract. The invariant: the characters passed over are the elements so far.
use mathlib.Core.Path.{◌∙◌, sym}
use borrow.Author.Rules.{rules}
use mir.Facts.{to_z-of_z}
use mir.Syntax.{w64}
use Rattle.table.proofs.Failures.{handed-on}
use Rattle.table.specs.Shape.{Text}
use Rattle.element_reading.proofs.chars.Laws.{char-more, chars-are, chars-copied, chars-none, chars-spoilt}
use Rattle.element_reading.proofs.elements.Laws.{read-broken, read-end, read_more, read_none, read-spoilt}
use Rattle.character_reading.proofs.characters.Laws.{read-as}
use Rattle.element_reading.proofs.chars.chars.Goals as goal

pub loop-next-init : goal.loop-next-init
loop-next-init c = read_none chars-none (search rules)

pub returns-in_err-next : goal.returns-in_err-next
returns-in_err-next c =
    let r = chars-copied c.loop-next.invariant c.copy_plain-j.ensures in
    read-broken r Text (handed-on c.from_residual.ensures.1) c.in_err-next.ensures.found

pub returns-in-End : goal.returns-in-End
returns-in-End c =
    let r = chars-copied c.loop-next.invariant c.copy_plain-j.ensures in
    read-end r Text (read-as c.args.source c.args.s.now c.copy_plain-j.result c.in-End.is c.in_ok-next.ensures) (chars-are r.w r.es r.means)

pub returns-then-not-is_text : goal.returns-then-not-is_text
returns-then-not-is_text c =
    let r = chars-copied c.loop-next.invariant c.copy_plain-j.ensures in
    let no_text = sym c.is_text.ensures ∙ c.if-not-is_text.true in
    read-spoilt r Text (read-as c.args.source c.args.s.now c.copy_plain-j.result c.in-Code.is c.in_ok-next.ensures) (chars-spoilt r.w _ no_text) c.spoiled.ensures

pub loop-next-preserved : goal.loop-next-preserved
loop-next-preserved c =
    let r = chars-copied c.loop-next.invariant c.copy_plain-j.ensures in
    let stored = to_z-of_z {w = w64} (record { sfits = c.as_element.type_inv }) ∙ c.as_element.ensures in
    let is-text = sym c.is_text.ensures ∙ c.if-not-is_text.false in
    read_more r (read-as c.args.source c.args.s.now c.copy_plain-j.result c.in-Code.is c.in_ok-next.ensures) c.put.ensures stored (char-more r.w _ r.es r.means is-text)
