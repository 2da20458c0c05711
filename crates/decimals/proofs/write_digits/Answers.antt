-- `decimals::write_digits` meets its contract: the shortest digits are the numerals, as many as were counted.
use Prim.Native.Nat.{◌+◌, ℕ}
use mathlib.Core.Path.{◌∙◌, ap, sym}
use lib.Seq.{sets}
use Rattle.decimals.specs.Clauses.{numerals}
use Rattle.decimals.proofs.Numerals.{digits-numerals}
use native.Mathlib.Omega.{arith}
use Rattle.decimals.proofs.write_digits.Goals as goal

pub put_digits-requires : goal.put_digits-requires
put_digits-requires c = omega (arith, c.digit_count-count.ensures)

pub overflow_add-result : goal.overflow_add-result
overflow_add-result c = omega (arith, c.digit_count-count.ensures)

pub returns : goal.returns
returns c =
    let counted = c.digit_count-count.ensures in
    record {
      now-is =
          c.put_digits.ensures
          ∙ ap (sets c.args.out.now c.args.at) (ap (λ (n : ℕ). numerals n c.args.x) counted ∙ sym (digits-numerals 20 c.args.x));
      next-is = ap (λ (n : ℕ). c.args.at + n) counted;
    }
