-- indexing::index: the front of the call, then the rows; each way out is one law of index' Calls. An input within its size has starts of 32 bits.
use Prim.Native.Nat.{◌≤◌}
use lib.ListN.{length}
use Rattle.fields.proofs.Front.{front-is, front-sized}
use Rattle.index.proofs.Calls.{index-refused, rows-indexed}
use Rattle.rows.proofs.Laws.{columns-within}
use Rattle.table.proofs.Laws.{holds_at}
use Rattle.table.specs.Outcome.{most_input}
use borrow.Author.Rules.{rules}
use native.Mathlib.Omega.{arith}
use Rattle.indexing.proofs.index.Goals as goal

pub enter_rows-requires : goal.enter_rows-requires
unfolding most_input
enter_rows-requires c =
    let decls = c.args.decls.now in
    let size = length c.args.input.now in
    let columns = c.in-Ok.ensures.says in
    let sized : size ≤ 1073741824 = holds_at (front-sized decls size) columns in
    (columns-within _ (holds_at (front-is decls size) columns), omega (arith, sized), search rules)

pub returns-in-Ok : goal.returns-in-Ok
returns-in-Ok c =
    let r = c.enter_rows.ensures in
    rows-indexed c.args.decls.now c.args.from c.args.input.now c.args.index.now _ c.in-Ok.ensures.says _ _ r.value r.index_after

pub returns-in-Err : goal.returns-in-Err
returns-in-Err c =
    rw c.before_rows.ensures (index-refused c.args.decls.now c.args.from c.args.input.now c.args.index.now _ _ c.in-Err.ensures.says)
