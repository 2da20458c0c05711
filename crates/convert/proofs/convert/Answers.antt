-- convert::convert: the answer of `convert_piece` and its buffer, which are those of `convert`.
use Rattle.rows.specs.Pieces.{convert_piece}
use borrow.Author.Rules.{rules}
use Rattle.convert.proofs.convert.Goals as goal

pub returns : goal.returns
unfolding convert_piece
returns c =
    let p = c.convert_piece-piece.ensures in
    record { answers = p.answers; leaves = p.leaves }
