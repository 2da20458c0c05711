-- `flags::read_flags` meets its contract: the bytes spell one number, whose low digits are the spare flags.
use Rattle.binary.proofs.Digits.{unit-some}
use Rattle.flags.proofs.FlagLaws.{are-bytes, flags-short, start-few, start-good, start-spoiled}
use Rattle.binary.specs.Binary.{bit_bytes}
use native.Mathlib.Omega.{arith}
use Rattle.flags.proofs.read_flags.Goals as goal

pub flag_bytes-n-requires : goal.flag_bytes-n-requires
flag_bytes-n-requires c = omega arith

pub returns-then-s-at : goal.returns-then-s-at
returns-then-s-at c =
    let a = c.args in
    record { found = flags-short a.columns a.at a.s.now (rw c.flag_bytes-n.ensures.0 at c.if-s-at.true); within = tt }

pub few_bytes-x-requires : goal.few_bytes-x-requires
few_bytes-x-requires c = (omega (arith, c.if-s-at.false), c.flag_bytes-n.ensures.1)

pub overflow_mul-spare : goal.overflow_mul-spare
overflow_mul-spare c = omega (arith, c.flag_bytes-n.ensures.1)

pub overflow_sub-spare : goal.overflow_sub-spare
unfolding bit_bytes
overflow_sub-spare c = omega (arith, c.flag_bytes-n.ensures.0)

pub overflow_shl-unit : goal.overflow_shl-unit
unfolding bit_bytes
overflow_shl-unit c = omega (arith, c.flag_bytes-n.ensures.0)

pub nonzero_rem-x : goal.nonzero_rem-x
unfolding bit_bytes
nonzero_rem-x c = unit-some _ (omega (arith, c.flag_bytes-n.ensures.0))

pub nonzero_div-flags : goal.nonzero_div-flags
unfolding bit_bytes
nonzero_div-flags c = unit-some _ (omega (arith, c.flag_bytes-n.ensures.0))

pub overflow_add-flags : goal.overflow_add-flags
overflow_add-flags c = omega (arith, c.if-s-at.false)

pub returns-then-x-unit-eq0 : goal.returns-then-x-unit-eq0
returns-then-x-unit-eq0 c =
    let a = c.args in
    let b = are-bytes a.s.now (λ i. omega (arith, c.shared_slice_known-1.given i)) in
    record {
      found = start-good a.columns a.at c.flag_bytes-n.result a.s.now c.flag_bytes-n.ensures.0
          c.if-s-at.false c.few_bytes-x.result c.few_bytes-x.ensures b c.if-x-unit-eq0.true;
      within = (
        omega arith,
        omega (arith, c.if-s-at.false, c.requires.0),
        start-few a.columns a.at
            c.flag_bytes-n.result a.s.now c.flag_bytes-n.ensures.0 c.if-s-at.false c.few_bytes-x.result
            c.few_bytes-x.ensures b,
      );
    }

pub returns-else-x-unit-eq0 : goal.returns-else-x-unit-eq0
returns-else-x-unit-eq0 c =
    let a = c.args in
    let b = are-bytes a.s.now (λ i. omega (arith, c.shared_slice_known-1.given i)) in
    record {
      found = start-spoiled a.columns a.at c.flag_bytes-n.result a.s.now c.flag_bytes-n.ensures.0
          c.if-s-at.false c.few_bytes-x.result c.few_bytes-x.ensures b c.if-x-unit-eq0.false;
      within = tt;
    }
