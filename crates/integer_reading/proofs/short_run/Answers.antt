-- `integer_reading::short_run` meets its contract: the first of eight characters that is no digit ends the run; where there is none, that of the next eight.
use Prim.Native.Nat.{◌≤◌, ℕ}
use native.Mathlib.Omega.{arith}
use mathlib.Core.List.{List}
use lib.ListN.{drop, length-drop}
use Rattle.integer_reading.proofs.Digits.{figures-none}
use Rattle.integer_reading.proofs.Short.{both-figures, counted-few, first-figures, shifted_fits}
use Rattle.eights.proofs.Fronts.{are-bytes}
use Rattle.table.proofs.Laws.{all_drop}
use Rattle.table.specs.All.{AreBytes}
use Rattle.integer_reading.proofs.short_run.Goals as goal

pub front_lowest-requires : goal.front_lowest-requires
front_lowest-requires c = counted-few c.no_digits-first.ensures c.first_lowest-count.ensures (omega arith) c.if-first-ne0.true

pub returns-then-first-ne0 : goal.returns-then-first-ne0
returns-then-first-ne0 c =
    let x = c.args.x in
    let marks = c.no_digits-first.ensures in
    let first = c.first_lowest-count.ensures in
    let few : c.first_lowest-count.result ≤ 7 = counted-few marks first (omega arith) c.if-first-ne0.true in
    record { figures-are = first-figures marks first few c.front_lowest.ensures c.decimal_lowest.ensures _; few = omega (arith, few) }

pub returns-then-second-eq0 : goal.returns-then-second-eq0
returns-then-second-eq0 c = record { figures-are = λ p l a e. figures-none (omega arith); few = omega arith }

pub power_of_ten-requires : goal.power_of_ten-requires
power_of_ten-requires c = counted-few c.no_digits-second.ensures c.first_lowest-n.ensures (omega arith) c.if-second-eq0.false

pub overflow_mul-result : goal.overflow_mul-result
overflow_mul-result c =
    let few-behind : c.first_lowest-n.result ≤ 7 = counted-few c.no_digits-second.ensures c.first_lowest-n.ensures (omega arith) c.if-second-eq0.false in
    record { fits = omega (arith, shifted_fits _ _ _ c.decimal_lowest-2.ensures.below few-behind c.power_of_ten.ensures) }

pub front_lowest-requires-2 : goal.front_lowest-requires-2
front_lowest-requires-2 c =
    let few-behind : c.first_lowest-n.result ≤ 7 = counted-few c.no_digits-second.ensures c.first_lowest-n.ensures (omega arith) c.if-second-eq0.false in
    few-behind

pub overflow_add-result : goal.overflow_add-result
overflow_add-result c =
    let few-behind : c.first_lowest-n.result ≤ 7 = counted-few c.no_digits-second.ensures c.first_lowest-n.ensures (omega arith) c.if-second-eq0.false in
    record { fits = omega (arith, shifted_fits _ _ _ c.decimal_lowest-2.ensures.below few-behind c.power_of_ten.ensures, c.decimal_lowest-3.ensures.below) }

pub overflow_add-result-2 : goal.overflow_add-result-2
overflow_add-result-2 c =
    let few-behind : c.first_lowest-n.result ≤ 7 = counted-few c.no_digits-second.ensures c.first_lowest-n.ensures (omega arith) c.if-second-eq0.false in
    record { fits = omega (arith, few-behind) }

pub returns : goal.returns
returns c =
    let few-behind : c.first_lowest-n.result ≤ 7 = counted-few c.no_digits-second.ensures c.first_lowest-n.ensures (omega arith) c.if-second-eq0.false in
    let s : List ℕ = c.args.s.now in
    let rest : List ℕ = drop c.args.behind s in
    let bytes : AreBytes s = are-bytes s (λ i. omega (arith, c.shared_slice_known-1.given i)) in
    let y = c.eight_lowest-y in
    let power = c.power_of_ten.ensures in
    record {
      figures-are = both-figures
          c.no_digits-first.ensures
          c.if-first-ne0.false
          c.decimal_lowest-2.ensures
          c.no_digits-second.ensures
          c.first_lowest-n.ensures
          few-behind
          c.front_lowest-2.ensures
          c.decimal_lowest-3.ensures
          rest
          (all_drop _ c.args.behind s bytes)
          (simp length-drop (omega arith))
          y.ensures
          (omega arith)
          (rw power);
      few = omega (arith, few-behind);
    }
