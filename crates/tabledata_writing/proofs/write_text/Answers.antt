-- `tabledata_writing::write_text` meets its contract: `<TD/>`, or the text of the elements between the tags.
use Prim.Native.Nat.{◌+◌, ◌≤◌}
use native.Mathlib.Omega.{arith}
use mathlib.Core.Path.{sym}
use lib.ListN.{length, take}
use Rattle.table.proofs.Wrote.{wrote_as, wrote-long, wrote_then_lem}
use Rattle.tabledata_writing.proofs.Writing.{text-long, text-tagged}
use Rattle.tabledata.specs.TableData.{text_bytes}
use Rattle.table.specs.Cell.{shown}
use Rattle.tabledata_writing.proofs.write_text.Goals as goal

pub put_bytes-requires : goal.put_bytes-requires
unfolding text_bytes
put_bytes-requires c = rw c.in_default.is at c.requires.1

pub returns-in_default : goal.returns-in_default
unfolding text_bytes
returns-in_default c = rw c.in_default.is c.put_bytes.ensures

pub put_bytes-from-requires : goal.put_bytes-from-requires
put_bytes-from-requires c =
    let es = take c.in-Some.count c.args.scratch.now in
    let room : c.args.at + length (text_bytes c.args.column (shown es)) ≤ length c.args.out.now = rw c.in-Some.is at c.requires.1 in
    omega (arith, room, text-long c.args.column es)

pub put_elements-next-requires : goal.put_elements-next-requires
put_elements-next-requires c =
    let es = take c.in-Some.count c.args.scratch.now in
    let room : c.args.at + length (text_bytes c.args.column (shown es)) ≤ length c.args.out.now = rw c.in-Some.is at c.requires.1 in
    let tag = c.put_bytes-from.ensures in
    omega (arith, room, text-long c.args.column es, tag.next-is, wrote-long tag)

pub put_bytes-requires-2 : goal.put_bytes-requires-2
put_bytes-requires-2 c =
    let es = take c.in-Some.count c.args.scratch.now in
    let room : c.args.at + length (text_bytes c.args.column (shown es)) ≤ length c.args.out.now = rw c.in-Some.is at c.requires.1 in
    let text = c.put_elements-next.ensures in let tag = c.put_bytes-from.ensures in
    omega (arith, room, text-long c.args.column es, tag.next-is, text.next-is, wrote-long tag, wrote-long text)

pub returns : goal.returns
returns c =
    let es = take c.in-Some.count c.args.scratch.now in
    rw c.in-Some.is
    (wrote_as (sym (text-tagged c.args.column es))
    (wrote_then_lem c.put_bytes-from.ensures (wrote_then_lem c.put_elements-next.ensures c.put_bytes-2.ensures)))
