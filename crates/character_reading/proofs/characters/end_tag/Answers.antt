-- `character_reading::characters::end_tag` meets its contract: a whole `</TD>`, or the text is broken.
use mathlib.Core.Path.{subst, sym}
use Rattle.character_reading.proofs.characters.Laws.{markup-failed, ended_by, ended-not}
use Rattle.character_reading.specs.Characters.{ItemIs}
use Rattle.text.specs.Clauses.{TagIs}
use Rattle.character_reading.proofs.characters.end_tag.Goals as goal

pub returns-in_err-next : goal.returns-in_err-next
returns-in_err-next c =
    let e = c.in_err-next.ensures in
    subst (ItemIs _ _ _ _) (sym (markup-failed c.from_residual.ensures.1 e.value e.ok_part)) (ended-not (subst (TagIs _ _ _) e.ok_part c.whole_tag.ensures))

pub returns : goal.returns
returns c = ended_by (subst (TagIs _ _ _) c.in_ok-next.ensures.ok_part c.whole_tag.ensures)
