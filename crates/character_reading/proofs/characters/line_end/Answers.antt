-- `character_reading::characters::line_end` meets its contract: the byte behind the 13 decides where the line end ends.
use native.Mathlib.Omega.{arith}
use Rattle.character_reading.proofs.characters.Laws.{return-alone-item, return-feed-item, return-last, return-other}
use Rattle.character_reading.proofs.characters.line_end.Goals as goal
use Rattle.character_reading.proofs.characters.line_end.Goals.{else-next-s-via-then-next-s+else-s-next-eq10, else-next-s-via-else-next-s}

pub returns-then-s-next-eq10 : goal.returns-then-s-next-eq10
returns-then-s-next-eq10 c = return-feed-item c.args.s.now c.args.at c.requires (omega arith) (omega arith)

pub returns : goal.returns
returns c =
    let s = c.args.s.now in
    let i = c.args.at in
    return-alone-item s i c.requires
    elim c.else-next-s.branch [
      | else-next-s-via-then-next-s+else-s-next-eq10 v ↦ return-other s i c.requires (omega arith) (λ e. omega (arith, e))
      | else-next-s-via-else-next-s v ↦ return-last s i c.requires v.if-next-s.false
    ]
