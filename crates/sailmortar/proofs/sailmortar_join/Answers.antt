-- The numbers at entry say how far it has come, and the joined parts go out as numbers.
use borrow.Author.Rules.{rules}
use mathlib.Core.Path.{◌∙◌, ap}
use Rattle.parts.specs.Join.{join, parts_of}
use Rattle.parts.specs.declared.Joined.{Joined}
use Rattle.sailmortar.specs.Face.{join_face, joined_numbers}
use Rattle.sailmortar.proofs.sailmortar_join.Goals as goal

pub returns : goal.returns
unfolding join_face
returns c =
    let a = c.args in
    c.put_joined.ensures
    ∙ ap joined_numbers
    (c.join.ensures ∙ ap (λ (j : Joined). join a.length a.room j (parts_of a.parts.now)) c.joined_of-so_far.ensures)
