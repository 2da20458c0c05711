-- `flags::add_flag` meets its contract: one digit more; what is shifted out of the word is no flag of these columns.
use Rattle.flags.proofs.FlagLaws.{flag-added}
use Rattle.binary.specs.Binary.{flag_bit}
use Rattle.number.specs.Number.{to_digits}
use lib.Dec.{lit<}
use mathlib.Core.Bool.{Bool}
use mathlib.Core.List.{[], ◌++◌, ◌∷◌}
use mathlib.Core.Path.{◌∙◌, ap, sym}
use native.Mathlib.Nat.{add-zero}
use native.Mathlib.Omega.{arith}
use Rattle.flags.proofs.add_flag.Goals as goal

pub overflow_add-result : goal.overflow_add-result
overflow_add-result c = omega arith

pub returns-then-null : goal.returns-then-null
returns-then-null c =
    let a = c.args in
    flag-added a.k a.flags 1 c.requires (lit< tt) ∙ ap (λ (f : Bool). to_digits 2 a.k a.flags ++ (flag_bit f ∷ [])) (sym c.if-null.true)

pub returns-else-null : goal.returns-else-null
returns-else-null c =
    let a = c.args in
    ap (to_digits 2 _) (sym (add-zero _)) ∙ flag-added a.k a.flags 0 c.requires (lit< tt) ∙ ap (λ (f : Bool). to_digits 2 a.k a.flags ++ (flag_bit f ∷ [])) (sym c.if-null.false)
