-- `integers::store_four` meets its contract: the two high digits, then from where they end the two low ones.
use Prim.Native.Nat.{◌/◌}
use mathlib.Core.Path.{sym}
use lib.Dec.{lit<}
use Rattle.number.proofs.Laws.{digits-join, length_to}
use Rattle.table.proofs.Wrote.{wrote_as, wrote_then_lem}
use native.Mathlib.Omega.{arith}
use Rattle.integers.proofs.store_four.Goals as goal

pub store_two-requires : goal.store_two-requires
store_two-requires c =
    let first = c.store_two-middle in
    omega (arith, first.ensures.next-is, length_to 256 2 (c.args.x / 65536), first.auto.out)

pub returns : goal.returns
returns c =
    wrote_as (sym (digits-join 256 (lit< tt) 2 2 c.args.x))
    (wrote_then_lem c.store_two-middle.ensures c.store_two.ensures)
