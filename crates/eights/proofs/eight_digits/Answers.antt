-- `eights::eight_digits` meets its contract: halves, quarters, single digits.
use native.Mathlib.Omega.{arith}
use Prim.Native.Nat.{◌%◌, ◌/◌, ℕ}
use mathlib.Core.Path.{◌∙◌}
use Rattle.eights.proofs.Parts.{eight_is, parts-lt}
use borrow.Author.Rules.{rules}
use Rattle.eights.proofs.eight_digits.Goals as goal

pub halves-requires : goal.halves-requires
halves-requires c = search rules

pub quarters-requires : goal.quarters-requires
quarters-requires c = omega (arith, c.halves.ensures)

pub singles-requires : goal.singles-requires
singles-requires c =
    let v : ℕ = c.args.v in
    parts-lt _ _ _ _ _ (omega arith) (omega arith) (omega arith) (omega arith)
    (c.quarters.ensures.quarters (v / 10000) (v % 10000) (omega arith) (omega arith) c.halves.ensures)

pub returns : goal.returns
returns c =
    let v : ℕ = c.args.v in
    c.singles.ensures.singles _ _ _ _ (omega arith) (omega arith) (omega arith) (omega arith)
    (c.quarters.ensures.quarters (v / 10000) (v % 10000) (omega arith) (omega arith) c.halves.ensures)
    ∙ eight_is v (omega arith)
