-- binary_moving::move_counted: null where it is skipped, else its elements.
use mathlib.Core.Path.{◌∙◌, ap, sym}
use Prim.Native.Nat.{◌+◌, ◌≤◌}
use lib.ListN.{length}
use Rattle.binary.specs.Binary.{content_bytes}
use Rattle.binary_moving.proofs.Counted.{counted-moved, skipped-moved}
use Rattle.moving.proofs.Puts.{puts_none}
use Rattle.table.specs.Shape.{shape}
use native.Mathlib.Omega.{arith}
use Rattle.binary_moving.proofs.move_counted.Goals as goal

pub returns-then-s-at : goal.returns-then-s-at
returns-then-s-at c = λ h. puts_none c.args.row.now c.args.o (omega (arith, c.requires.3))

pub put_null-requires : goal.put_null-requires
put_null-requires c = (c.requires.0, c.requires.3)

pub returns-then-is_skipped : goal.returns-then-is_skipped
returns-then-is_skipped c =
    let room : c.args.at + content_bytes (shape c.args.column.kind) c.args.n + 8 ≤ length c.args.s.now = omega (arith, c.content_bytes-bytes.ensures.0, c.if-s-at.false, c.requires.2) in
    let a = c.args in
    let n = c.put_null in
    λ h. skipped-moved a.from a.to a.column a.flagged a.n a.s.now a.at _ a.row.now a.o n.new.row n.result
    (ap (λ z. a.at + z) c.content_bytes-bytes.ensures.0) (omega (arith, room)) h
    (sym c.is_skipped.ensures ∙ c.if-is_skipped.true) n.ensures

pub move_unflagged-requires : goal.move_unflagged-requires
move_unflagged-requires c =
    let room : c.args.at + content_bytes (shape c.args.column.kind) c.args.n + 8 ≤ length c.args.s.now = omega (arith, c.content_bytes-bytes.ensures.0, c.if-s-at.false, c.requires.2) in
    (c.requires.0, c.requires.1, room, c.requires.3)

pub returns : goal.returns
returns c =
    let room : c.args.at + content_bytes (shape c.args.column.kind) c.args.n + 8 ≤ length c.args.s.now = omega (arith, c.content_bytes-bytes.ensures.0, c.if-s-at.false, c.requires.2) in
    let a = c.args in
    let m = c.move_unflagged in
    λ h. counted-moved a.from a.to a.column a.flagged a.n a.s.now a.at a.row.now a.o m.new.row m.result (omega (arith, room)) h
    (sym c.is_skipped.ensures ∙ c.if-is_skipped.false) (m.ensures a.from)
