-- `integers::store_eight` meets its contract: the four high digits, then from where they end the four low ones.
use Prim.Native.Nat.{◌/◌}
use mathlib.Core.Path.{sym}
use lib.Dec.{lit<}
use Rattle.number.proofs.Laws.{digits-join, length_to}
use Rattle.table.proofs.Wrote.{wrote_as, wrote_then_lem}
use native.Mathlib.Omega.{arith}
use Rattle.integers.proofs.store_eight.Goals as goal

pub store_four-requires : goal.store_four-requires
store_four-requires c =
    let first = c.store_four-middle in
    omega (arith, first.ensures.next-is, length_to 256 4 (c.args.x / 4294967296), first.auto.out)

pub returns : goal.returns
returns c =
    wrote_as (sym (digits-join 256 (lit< tt) 4 4 c.args.x))
    (wrote_then_lem c.store_four-middle.ensures c.store_four.ensures)
