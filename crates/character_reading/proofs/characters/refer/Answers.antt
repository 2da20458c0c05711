-- `character_reading::characters::refer` meets its contract: the name up to its `;`, and what it means.
use mathlib.Core.Path.{◌∙◌, ap, subst, sym}
use Rattle.character_reading.proofs.characters.Laws.{markup-failed, name-known, name-unknown}
use Rattle.character_reading.specs.Characters.{ItemIs, NameIs}
use Rattle.character_reading.specs.References.{reference_as}
use Rattle.character_reading.proofs.characters.refer.Goals as goal

pub returns-in_err-code : goal.returns-in_err-code
returns-in_err-code c =
    let name = subst (NameIs _ _) c.in_ok-end.ensures.ok_part c.semicolon.ensures in
    let e = c.in_err-code.ensures in
    subst (ItemIs _ _ _ _) (sym (markup-failed c.from_residual-in_err-code.ensures.1 e.value e.ok_part)) (name-unknown name (c.expand.ensures ∙ ap reference_as e.ok_part))

pub returns : goal.returns
returns c =
    let name = subst (NameIs _ _) c.in_ok-end.ensures.ok_part c.semicolon.ensures in
    name-known name (c.expand.ensures ∙ ap reference_as c.in_ok-code.ensures.ok_part)
