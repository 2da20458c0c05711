-- fetching::fetch: the front of the call, then the row; each way out is one law of index' Calls.
use lib.ListN.{length}
use Rattle.fields.proofs.Front.{front-is}
use Rattle.index.proofs.Calls.{fetch-refused, row-fetched}
use Rattle.rows.proofs.Laws.{columns-within}
use Rattle.table.proofs.Laws.{holds_at}
use Rattle.fetching.proofs.fetch.Goals as goal

pub fetch_row-requires : goal.fetch_row-requires
fetch_row-requires c = columns-within _ (holds_at (front-is c.args.decls.now (length c.args.input.now)) c.in-Ok.ensures.says)

pub returns-in-Ok : goal.returns-in-Ok
returns-in-Ok c =
    let r = c.fetch_row.ensures in
    row-fetched c.args.decls.now c.args.from c.args.input.now c.args.index.now c.args.rows c.args.row c.args.out.now _ c.in-Ok.ensures.says _ _ r.value r.out_after

pub returns-in-Err : goal.returns-in-Err
returns-in-Err c =
    rw c.before_rows.ensures
    (fetch-refused c.args.decls.now c.args.from c.args.input.now c.args.index.now c.args.rows c.args.row c.args.out.now _ _ c.in-Err.ensures.says)
