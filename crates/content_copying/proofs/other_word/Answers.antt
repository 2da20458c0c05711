-- `content_copying::other_word` meets its contract: the word's integer is read, and put as it is written.
use native.Mathlib.Omega.{arith}
use mathlib.Core.List.{[], ◌++◌, ◌∷◌}
use mathlib.Core.Path.{◌≡◌, ap}
use lib.IntN.{ℤ}
use mir.Syntax.{w64}
use mir.Val.{of_z, to_z}
use Rattle.moving.proofs.Puts.{puts-as, puts_none}
use Rattle.number.specs.Number.{shortest}
use borrow.Author.Rules.{rules}
use Rattle.content_copying.proofs.other_word.Goals as goal

pub returns-in_err-z : goal.returns-in_err-z
returns-in_err-z c = rw c.from_residual.ensures (puts_none _ _ (omega arith))

pub shape_of-row : goal.shape_of-row
shape_of-row c = c.put_word-e.ensures.long

pub returns : goal.returns
returns c =
    let z : ℤ = c.in_ok-z.field-0.value in
    let e : to_z w64 (of_z w64 z) ≡ z = search rules in
    record {
      z = c.in_ok-z.field-0.value;
      reads = c.in_ok-z.ensures;
      puts = puts-as (ap (λ (y : ℤ). shortest y ++ (32 ∷ [])) e) c.put_word-e.ensures;
    }
