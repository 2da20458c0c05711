-- row_moving::frame_row: what begins the row is stored in the room before its cells, what ends it behind them, where there is room.
use mathlib.Core.Path.{◌∙◌, refl}
use native.Mathlib.Omega.{arith}
use Rattle.row_moving.proofs.Moving.{end-most, row-framed, start-most}
use Rattle.table.proofs.Wrote.{wrote-long}
use Rattle.row_moving.proofs.frame_row.Goals as goal

pub write_start-requires : goal.write_start-requires
write_start-requires c =
    (omega (arith, start-most c.args.to c.args.count c.args.nulls c.requires.0, c.requires.1), c.requires.0)

pub write_end-requires : goal.write_end-requires
write_end-requires c =
    omega (arith, end-most c.args.to, c.if-row-end-lt-MOST_FRAME_BYTES.false, c.requires.2, wrote-long c.write_start.ensures)

pub returns-then-row-end-lt-MOST_FRAME_BYTES : goal.returns-then-row-end-lt-MOST_FRAME_BYTES
returns-then-row-end-lt-MOST_FRAME_BYTES c = record { framed = omega (arith, c.if-row-end-lt-MOST_FRAME_BYTES.true, c.requires.2); long = refl }

pub returns : goal.returns
returns c =
    let w = c.write_start.ensures in
    let z = c.write_end.ensures in
    let h = c.if-row-end-lt-MOST_FRAME_BYTES.false in
    let long = wrote-long z ∙ wrote-long w in
    record {
      framed = (
        omega (arith, long, z.next-is, end-most c.args.to, h, c.requires.2),
        λ cells before q n. row-framed _ cells before _ c.args.row.now _ _ _ c.args.end _ w z q n (omega (arith, end-most c.args.to, h, c.requires.2)),
      );
      long = long;
    }
