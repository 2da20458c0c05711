-- comparing::compare: the front of each input, then their rows; each way out is one law of Calls. An input within its size has rows of 32 bits.
use Prim.Native.Nat.{◌≤◌}
use lib.ListN.{length}
use Rattle.comparing.proofs.Calls.{front-refused, late-refused, rows-compared, same-columns}
use Rattle.fields.proofs.Front.{front-is, front-sized}
use Rattle.rows.proofs.Laws.{columns-within}
use Rattle.table.proofs.Laws.{holds_at}
use Rattle.table.specs.Outcome.{most_input}
use native.Mathlib.Omega.{arith}
use Rattle.comparing.proofs.compare.Goals as goal

pub returns-in-Err : goal.returns-in-Err
returns-in-Err c =
    rw (c.refuse.ensures, c.number.ensures)
    (front-refused c.args.decls.now c.args.from c.args.first.now c.args.kind c.args.second.now c.args.places.now _ _ c.in-Err.ensures.says)

pub compare_rows-requires : goal.compare_rows-requires
unfolding most_input
compare_rows-requires c =
    let columns = c.in-Ok.ensures.says in
    let sized : length c.args.first.now ≤ 1073741824 = holds_at (front-sized c.args.decls.now (length c.args.first.now)) columns in
    (columns-within _ (holds_at (front-is c.args.decls.now (length c.args.first.now)) columns), omega (arith, sized))

pub refuse_second-requires : goal.refuse_second-requires
refuse_second-requires c = columns-within _ (holds_at (front-is c.args.decls.now (length c.args.first.now)) c.in-Ok.ensures.says)

pub returns-in-Ok-front : goal.returns-in-Ok-front
returns-in-Ok-front c =
    let r = c.compare_rows.ensures in
    let columns = c.in-Ok.ensures.says in
    rows-compared c.args.decls.now c.args.from c.args.first.now c.args.kind c.args.second.now c.args.places.now _ columns
    (same-columns c.args.decls.now _ _ _ _ columns c.in-Ok-front.ensures.says) _ _ r.value r.places_after

pub returns-in-Err-front : goal.returns-in-Err-front
returns-in-Err-front c =
    late-refused c.args.decls.now c.args.from c.args.first.now c.args.kind c.args.second.now c.args.places.now _ c.in-Ok.ensures.says _ _
    c.in-Err-front.ensures.says _ c.refuse_second.ensures
