-- `character_reading::characters::spoiled` meets its contract. The invariant: the number is that of what is left.
use mathlib.Core.Path.{◌∙◌, ap, sym}
use Rattle.character_reading.proofs.characters.Laws.{read-as, spoiled-code, spoiled-end}
use Rattle.character_reading.specs.Characters.{spoiled_number}
use Rattle.character_reading.proofs.characters.spoiled.Goals as goal

pub returns-in-Err : goal.returns-in-Err
unfolding spoiled_number
returns-in-Err c = sym (c.loop-reason.invariant.1 ∙ ap spoiled_number c.in-Err.ensures.found)

pub returns-in-Ok-End : goal.returns-in-Ok-End
returns-in-Ok-End c =
    let l = c.loop-reason in
    let t = read-as c.args.source c.args.s.now l.i c.in-Ok-End.field-0-is c.in-Ok-End.ensures in
    sym (l.invariant.1 ∙ ap spoiled_number t.found ∙ spoiled-end _)

pub loop-reason-preserved : goal.loop-reason-preserved
loop-reason-preserved c =
    let l = c.loop-reason in
    let t = read-as c.args.source c.args.s.now l.i c.in-Ok-Code.field-0-is c.in-Ok-Code.ensures in
    (t.within.1, l.invariant.1 ∙ ap spoiled_number t.found ∙ spoiled-code _ _)
