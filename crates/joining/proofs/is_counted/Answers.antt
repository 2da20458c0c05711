-- joining::is_counted: the four sums in turn; the definition has the same tests, from the right.
use Prim.Native.Nat.{◌+◌, ℕ}
use mathlib.Core.Bool.{◌&&◌}
use mathlib.Core.Path.{◌∙◌, ◌≡◌, ap, refl}
use lib.Dec.{leb}
use Rattle.joining.proofs.Chain.{asked, beyond, chained, not-asked, within}
use Rattle.parts.specs.Join.{is_counted, most_count}
use Rattle.joining.proofs.is_counted.Goals as goal
use Rattle.joining.proofs.is_counted.Goals.{then-sum-le-MOST_COUNT, else-sum-le-MOST_COUNT, then-sum-le-MOST_COUNT-2, else-sum-le-MOST_COUNT-2}

pub returns-then-sum-le-MOST_COUNT-3 : goal.returns-then-sum-le-MOST_COUNT-3
unfolding is_counted most_count
returns-then-sum-le-MOST_COUNT-3 c =
    let a = c.args.j.place + c.args.p.place in let b = leb (c.args.j.rows + c.args.p.rows) 18446744073709551615 in
    let third = leb (c.args.j.rows + c.args.p.row) 18446744073709551615 in let last = leb (c.args.j.parts + 1) 18446744073709551615 in
    let first : c.if-sum-le-MOST_COUNT.value ≡ leb a 18446744073709551615 && b =
    elim c.if-sum-le-MOST_COUNT.branch [
      | then-sum-le-MOST_COUNT w ↦
          within a 18446744073709551615 b c.sum.ensures w.if-sum-le-MOST_COUNT.true
          (w.value-is ∙ ap (λ (n : ℕ). leb n 18446744073709551615) w.sum-then-sum-le-MOST_COUNT.ensures)
      | else-sum-le-MOST_COUNT w ↦ beyond a 18446744073709551615 b c.sum.ensures w.if-sum-le-MOST_COUNT.false w.value-is
    ] in
    let second : c.if-sum-le-MOST_COUNT-2.value ≡ c.if-sum-le-MOST_COUNT.value && third =
    elim c.if-sum-le-MOST_COUNT-2.branch [
      | then-sum-le-MOST_COUNT-2 w ↦
          asked third w.if-sum-le-MOST_COUNT-2.true (w.value-is ∙ ap (λ (n : ℕ). leb n 18446744073709551615) w.sum-then-sum-le-MOST_COUNT-2.ensures)
      | else-sum-le-MOST_COUNT-2 w ↦ not-asked third w.if-sum-le-MOST_COUNT-2.false w.value-is
    ] in
    chained (leb a 18446744073709551615) b third last first second
    (asked last c.if-sum-le-MOST_COUNT-3.true (ap (λ (n : ℕ). leb n 18446744073709551615) c.sum-then-sum-le-MOST_COUNT-3.ensures))

pub returns-else-sum-le-MOST_COUNT-3 : goal.returns-else-sum-le-MOST_COUNT-3
unfolding is_counted most_count
returns-else-sum-le-MOST_COUNT-3 c =
    let a = c.args.j.place + c.args.p.place in let b = leb (c.args.j.rows + c.args.p.rows) 18446744073709551615 in
    let third = leb (c.args.j.rows + c.args.p.row) 18446744073709551615 in let last = leb (c.args.j.parts + 1) 18446744073709551615 in
    let first : c.if-sum-le-MOST_COUNT.value ≡ leb a 18446744073709551615 && b =
    elim c.if-sum-le-MOST_COUNT.branch [
      | then-sum-le-MOST_COUNT w ↦
          within a 18446744073709551615 b c.sum.ensures w.if-sum-le-MOST_COUNT.true
          (w.value-is ∙ ap (λ (n : ℕ). leb n 18446744073709551615) w.sum-then-sum-le-MOST_COUNT.ensures)
      | else-sum-le-MOST_COUNT w ↦ beyond a 18446744073709551615 b c.sum.ensures w.if-sum-le-MOST_COUNT.false w.value-is
    ] in
    let second : c.if-sum-le-MOST_COUNT-2.value ≡ c.if-sum-le-MOST_COUNT.value && third =
    elim c.if-sum-le-MOST_COUNT-2.branch [
      | then-sum-le-MOST_COUNT-2 w ↦
          asked third w.if-sum-le-MOST_COUNT-2.true (w.value-is ∙ ap (λ (n : ℕ). leb n 18446744073709551615) w.sum-then-sum-le-MOST_COUNT-2.ensures)
      | else-sum-le-MOST_COUNT-2 w ↦ not-asked third w.if-sum-le-MOST_COUNT-2.false w.value-is
    ] in
    chained (leb a 18446744073709551615) b third last first second (not-asked last c.if-sum-le-MOST_COUNT-3.false refl)
