-- `flags::write_flags` meets its contract. The loop's invariant: the bytes that are left, put from here on, make the whole.
use Prim.Native.Nat.{◌+◌, ◌-◌}
use Rattle.binary.specs.Binary.{bit_bytes}
use Rattle.flags.proofs.FlagLaws.{byte_left, length-flags, write-is}
use Rattle.number.specs.Number.{to_digits}
use lib.ListN.{length-set}
use lib.Seq.{sets}
use mathlib.Core.Path.{◌∙◌, ◌≡◌, ap, sym}
use native.Mathlib.Omega.{arith}
use Rattle.flags.proofs.write_flags.Goals as goal

pub overflow_sub-x : goal.overflow_sub-x
unfolding bit_bytes
overflow_sub-x c = omega (arith, c.flag_bytes-n.ensures.0)

pub overflow_shl-x : goal.overflow_shl-x
unfolding bit_bytes
overflow_shl-x c = omega (arith, c.flag_bytes-n.ensures.0)

pub loop-k-preserved : goal.loop-k-preserved
loop-k-preserved c =
    let l = c.loop-k in
    let n = c.flag_bytes-n.result in
    let here : c.args.at + (l.k + 1) ≡ c.args.at + l.k + 1 = omega arith in
    let left : n - (l.k + 1) ≡ n - l.k - 1 = omega arith in
    let high : n - 1 - l.k ≡ n - l.k - 1 = omega arith in
    (simp length-set l.invariant.0, rw (here, left, high) (sym (byte_left l.out (c.args.at + l.k) (n - l.k) _ (omega arith))) ∙ l.invariant.1)

pub returns : goal.returns
unfolding to_digits
returns c =
    let l = c.loop-k in
    let a = c.args in
    let n = c.flag_bytes-n in
    let z : n.result - l.k ≡ 0 = omega arith in
    record {
      now-is = (rw z at l.invariant.1) ∙ ap (sets a.out.now a.at) (write-is a.columns a.flags n.result n.ensures.0 c.requires.0);
      next-is = omega (arith, length-flags a.columns a.flags, n.ensures.0);
    }
