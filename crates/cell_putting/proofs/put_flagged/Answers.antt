-- cell_putting::put_flagged: a null of BINARY2 is zeros, and takes what they take.
use mathlib.Core.Path.{refl}
use Rattle.binary.specs.Binary.{write_binary2}
use Rattle.binary_writing.proofs.Sizes.{zeros-length}
use Rattle.moving.proofs.Puts.{puts_none, puts-wrote}
use Rattle.rows.specs.Stream.{write_cell}
use Rattle.table.specs.Cell.{is_null}
use native.Mathlib.Omega.{arith}
use Rattle.cell_putting.proofs.put_flagged.Goals as goal

pub returns-then-row-o : goal.returns-then-row-o
returns-then-row-o c = puts_none _ _ c.requires.1

pub put_null-end-requires : goal.put_null-end-requires
put_null-end-requires c =
    (c.requires.0, omega (arith, zeros-length c.args.column, c.room_size.ensures, c.if-row-o.false, c.requires.1))

pub returns : goal.returns
unfolding write_cell write_binary2 is_null
returns c =
    record {
      bytes = _;
      writes = refl;
      puts = puts-wrote c.put_null-end.ensures (omega (
        arith,
        zeros-length
            c.args.column,
        c.room_size.ensures,
        c.if-row-o.false,
        c.requires.1,
      ));
      same_next = refl;
      null_is = refl;
    }
