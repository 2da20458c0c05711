-- joining::is_used: the tests of the definition in its order; at the first that fails it is false.
use Prim.Native.Nat.{◌+◌}
use native.Mathlib.Omega.{arith}
use mathlib.Core.Path.{◌∙◌, refl}
use borrow.Author.Tests.{eq-eqb, le-leb, lt-leb, ne_eqb}
use Rattle.parts.specs.Join.{is_used}
use Rattle.table.specs.Outcome.{most_input}
use Rattle.joining.proofs.is_used.Goals as goal
use Rattle.joining.proofs.is_used.Goals.{then-j-ne0-via-then-j-ne0, then-j-ne0-via-else-j-ne0+then-p-j, then-j-ne0-via-else-j-ne0+else-p-j+then-p-gt-MOST_INPUT}

pub returns-then-j-ne0 : goal.returns-then-j-ne0
unfolding is_used most_input
returns-then-j-ne0 c =
    elim c.then-j-ne0.branch [
      | then-j-ne0-via-then-j-ne0 w ↦ rw (ne_eqb c.args.j.ended 0 (λ z. omega (arith, z))) refl
      | then-j-ne0-via-else-j-ne0+then-p-j w ↦
          rw (eq-eqb c.args.j.ended 0 (omega arith), ne_eqb c.args.p.start c.args.j.place (λ z. omega (arith, z))) refl
      | then-j-ne0-via-else-j-ne0+else-p-j+then-p-gt-MOST_INPUT w ↦
          rw (
            eq-eqb c.args.j.ended 0 (omega arith),
            eq-eqb c.args.p.start c.args.j.place (omega arith),
            lt-leb c.args.p.length 1073741824 (omega arith),
          ) refl
    ]

pub returns-then-sum-from : goal.returns-then-sum-from
unfolding is_used most_input
returns-then-sum-from c =
    let s = c.sum.ensures in let f = c.from.ensures in
    rw (
      eq-eqb c.args.j.ended 0 (omega arith),
      eq-eqb c.args.p.start c.args.j.place (omega arith),
      le-leb c.args.p.length 1073741824 (omega arith),
      le-leb (c.args.j.bytes + c.args.p.bytes) c.args.room (omega arith),
    ) c.is_counted.ensures

pub returns-else-sum-from : goal.returns-else-sum-from
unfolding is_used most_input
returns-else-sum-from c =
    let s = c.sum.ensures in let f = c.from.ensures in
    lt-leb c.sum.result c.from.result (omega arith) ∙ rw (
      eq-eqb c.args.j.ended 0 (omega arith),
      eq-eqb c.args.p.start c.args.j.place (omega arith),
      le-leb c.args.p.length 1073741824 (omega arith),
      lt-leb (c.args.j.bytes + c.args.p.bytes) c.args.room (omega arith),
    ) refl
