-- planning::want_of: by what the elements are, as the definition has it. The test of bits is named as the definition has it, and follows from the code's.
use Prim.Native.Nat.{◌%◌}
use native.Mathlib.Omega.{arith}
use borrow.Author.Tests.{eq-eqb, ne_eqb}
use Rattle.std.specs.Prelude.{Some}
use mathlib.Core.Path.{ap}
use Rattle.number.specs.declared.Elements.{Elements}
use Rattle.planning.proofs.Steps.{one-integer, want-by, wants-none}
use Rattle.planning.specs.Plan.{want_of}
use Rattle.planning.proofs.want_of.Goals as goal

pub returns-then-n-eq0 : goal.returns-then-n-eq0
unfolding want_of
returns-then-n-eq0 c =
    let a = c.args in
    rw (← want-by Elements.Bits _ a.kind a.n c.in-Bits.is c.elements_of.ensures, eq-eqb (a.n % 8) 0 (omega (arith, c.if-n-eq0.true)))

pub returns-then-n-eq1 : goal.returns-then-n-eq1
unfolding want_of
returns-then-n-eq1 c =
    let a = c.args in
    let integer = c.in-Whole.integer in
    rw (← want-by (Elements.Whole integer) _ a.kind a.n c.in-Whole.is c.elements_of.ensures, eq-eqb _ 1 c.if-n-eq1.true)
    (ap Some (one-integer integer))

pub returns-in-Truths : goal.returns-in-Truths
unfolding want_of
returns-in-Truths c = let a = c.args in wants-none _ a.kind a.n c.in-Truths.is c.elements_of.ensures

pub returns-else-n-eq0 : goal.returns-else-n-eq0
unfolding want_of
returns-else-n-eq0 c =
    let a = c.args in
    rw (← want-by Elements.Bits _ a.kind a.n c.in-Bits.is c.elements_of.ensures, ne_eqb (a.n % 8) 0 (omega (arith, c.if-n-eq0.false)))

pub returns-else-n-eq1 : goal.returns-else-n-eq1
unfolding want_of
returns-else-n-eq1 c =
    let a = c.args in
    let integer = c.in-Whole.integer in
    rw (← want-by (Elements.Whole integer) _ a.kind a.n c.in-Whole.is c.elements_of.ensures, ne_eqb _ 1 c.if-n-eq1.false)
