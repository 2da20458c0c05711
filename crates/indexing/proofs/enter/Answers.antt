-- indexing::enter: a row between two entries changes nothing; one that has an entry has its place or not.
use Prim.Native.Nat.{◌%◌, ◌/◌}
use lib.ListN.{length}
use lib.Seq.{set_out}
use mathlib.Core.Path.{refl, sym}
use borrow.Author.Rules.{rules}
use borrow.Author.Tests.{eq-eqb, le-ltb, lt-ltb, ne_eqb}
use native.Mathlib.Omega.{arith}
use Rattle.indexing.proofs.enter.Goals as goal

pub returns-then-row-ne0 : goal.returns-then-row-ne0
returns-then-row-ne0 c =
    record {
      value = rw (ne_eqb (c.args.row % 64) 0 (λ z. omega (arith, z)));
      index_after = rw (ne_eqb (c.args.row % 64) 0 (λ z. omega (arith, z)));
    }

pub returns-then-index-place : goal.returns-then-index-place
returns-then-index-place c =
    let index = c.args.index.now in
    record {
      value = rw (eq-eqb (c.args.row % 64) 0 (omega arith), le-ltb (c.args.row / 64) (length index) (omega arith));
      index_after = rw (eq-eqb (c.args.row % 64) 0 (omega arith))
          (sym (set_out index (c.args.row / 64) c.args.start (omega arith)));
    }

pub returns : goal.returns
returns c =
    let index = c.args.index.now in
    record {
      value = rw (eq-eqb (c.args.row % 64) 0 (omega arith), lt-ltb (c.args.row / 64) (length index) (omega arith));
      index_after = rw (eq-eqb (c.args.row % 64) 0 (omega arith));
    }
