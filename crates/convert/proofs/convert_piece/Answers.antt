-- convert::convert_piece: the front of the call, then the rows; each way out is one law of rows' Pieces.
use lib.ListN.{length}
use Rattle.fields.proofs.Front.{front-is}
use Rattle.rows.proofs.Laws.{columns-within}
use Rattle.rows.proofs.Pieces.{piece-converted, piece-refused}
use Rattle.table.proofs.Laws.{holds_at}
use Rattle.convert.proofs.convert_piece.Goals as goal

pub convert_piece_columns-requires : goal.convert_piece_columns-requires
convert_piece_columns-requires c = columns-within _ (holds_at (front-is c.args.decls.now (length c.args.input.now)) c.in-Ok.ensures.says)

pub returns-in-Ok : goal.returns-in-Ok
returns-in-Ok c =
    let r = c.convert_piece_columns.ensures in
    piece-converted c.args.decls.now c.args.from c.args.to c.args.input.now c.args.out.now _ c.in-Ok.ensures.says _ _ _ r.answer_value r.out_after r.place_value

pub returns-in-Err : goal.returns-in-Err
returns-in-Err c =
    rw c.before_rows.ensures (piece-refused c.args.decls.now c.args.from c.args.to c.args.input.now c.args.out.now _ _ c.in-Err.ensures.says)
