-- cell_putting::fill_up: the count is stored in the room before the elements, the NULs behind them.
use Prim.Native.Nat.{ℕ}
use mathlib.Core.Path.{refl}
use lib.ListN.{length-replicate}
use Rattle.cell_putting.proofs.Cells.{elements-filled}
use Rattle.cell_putting.proofs.Stores.{puts_lower}
use Rattle.moving.proofs.Puts.{puts-wrote}
use Rattle.cell_putting.proofs.Cells.{count_most}
use Rattle.table.proofs.Wrote.{wrote-long}
use native.Mathlib.Omega.{arith}
use Rattle.cell_putting.proofs.fill_up.Goals as goal

pub returns-then-row-end : goal.returns-then-row-end
returns-then-row-end c = record { filled = λ old es n u. puts_lower u (omega arith) }

pub put_count-requires : goal.put_count-requires
put_count-requires c =
    (omega (arith, count_most c.args.column.len c.args.count, c.requires.1), c.requires.0)

pub put_zeros-e-requires : goal.put_zeros-e-requires
put_zeros-e-requires c =
    omega (arith, wrote-long c.put_count.ensures, c.if-row-end.false, c.requires.2)

pub returns : goal.returns
returns c =
    let w = c.put_count.ensures in
    let z = c.put_zeros-e.ensures in
    let f = c.fill_size-fill in
    let room = c.if-row-end.false in
    record {
      filled = λ old es n u. record {
        puts = elements-filled c.args.column es c.args.count f.result old _ _ _ c.args.o c.args.end _ _ n f.ensures u w
            (puts-wrote z (omega (arith, wrote-long w, room, c.requires.2, length-replicate {A = ℕ} f.result 0)));
        same_next = refl;
        not_null = refl;
      };
    }
