-- `content_showing::put_long` meets its contract: the first part, the middle, and the last eight digits.
use Prim.Native.Nat.{◌%◌, ◌<◌, ℕ}
use mathlib.Core.List.{◌++◌}
use mathlib.Core.Path.{◌∙◌, ap, sym}
use Rattle.content_showing.proofs.Digits.{first_small, long-parts, middle-long, short-long}
use Rattle.content_showing.specs.Showing.{middle_part}
use Rattle.decimals.specs.Clauses.{numerals}
use Rattle.moving.proofs.Puts.{puts-as, puts_then}
use Rattle.number.specs.Number.{digits}
use native.Mathlib.Omega.{arith}
use Rattle.content_showing.proofs.put_long.Goals as goal

pub put_first-next-requires : goal.put_first-next-requires
put_first-next-requires c =
    let small : c.first_part.result < 100000000 = omega (arith, c.first_part.ensures, first_small c.args.v (omega arith)) in
    (small, omega (arith, c.requires.1))

pub put_middle-after-requires : goal.put_middle-after-requires
put_middle-after-requires c =
    let small : c.first_part.result < 100000000 = omega (arith, c.first_part.ensures, first_small c.args.v (omega arith)) in
    let p = c.put_first-next.ensures in
    omega (arith, p.next-is, p.long, short-long _ small, c.requires.1)

pub put_eight_digits-requires : goal.put_eight_digits-requires
put_eight_digits-requires c =
    let small : c.first_part.result < 100000000 = omega (arith, c.first_part.ensures, first_small c.args.v (omega arith)) in
    let p = c.put_first-next.ensures in
    let q = c.put_middle-after.ensures in
    let few = short-long _ small in
    (omega arith, omega (arith, p.next-is, p.long, few, q.next-is, q.long, middle-long c.args.v, c.requires.1))

pub returns : goal.returns
returns c =
    let v : ℕ = c.args.v in
    let first = c.first_part in
    puts-as (ap (λ (x : ℕ). digits 20 x ++ middle_part v ++ numerals 8 (v % 100000000)) first.ensures ∙ sym (long-parts v c.requires.0 (omega arith)))
    (puts_then
    (puts_then c.put_first-next.ensures c.put_middle-after.ensures)
    c.put_eight_digits.ensures)
