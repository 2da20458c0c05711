-- `binary::count_up_to` meets its contract: each branch is a test of the definition.
use Rattle.binary.proofs.Loops.{count-good, count-over, count-short}
use native.Mathlib.Omega.{arith}
use Rattle.binary_reading.proofs.count_up_to.Goals as goal

pub returns-then-s-at-lt4 : goal.returns-then-s-at-lt4
returns-then-s-at-lt4 c = record { found = count-short c.args.most c.args.at c.args.s.now c.if-s-at-lt4.true; within = tt }

pub returns-then-most-n : goal.returns-then-most-n
returns-then-most-n c = record {
  found = count-over c.args.most c.args.at
      c.args.s.now c.if-s-at-lt4.false _ c.four_bytes-n.ensures c.if-most-n.true;
  within = tt;
}

pub returns : goal.returns
returns c = record {
  found = count-good c.args.most c.args.at
      c.args.s.now c.if-s-at-lt4.false _ c.four_bytes-n.ensures c.if-most-n.false;
  within = (omega arith, omega arith, c.if-most-n.false);
}
