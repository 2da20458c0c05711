-- `character_reading::references::expand` meets its contract: a name, or `#x` and hexadigits, or `#` and digits.
use Prim.Native.Nat.{◌-◌}
use native.Mathlib.Omega.{arith}
use mathlib.Core.Path.{◌∙◌, ap, sym}
use lib.ListN.{drop, length, take}
use Rattle.number.specs.Number.{hexadigit}
use Rattle.tabledata.specs.TableData.{numeric}
use Rattle.character_reading.proofs.references.Laws.{behind_first, expand-decimal, expand-hex, expand-name}
use Rattle.character_reading.proofs.references.expand.Goals as goal
use Rattle.character_reading.proofs.references.expand.Goals.{in_default-via-then-name-lt1, in_default-via-else-name-lt1+in_default-1}
use Rattle.character_reading.proofs.references.expand.Goals.{in_default-number-via-then-number-lt1, in_default-number-via-else-number-lt1+in_default-1}

pub returns-in_default : goal.returns-in_default
returns-in_default c = elim c.in_default.branch [
  | in_default-via-then-name-lt1 v ↦ expand-name c.args.name.now (λ h e. grind (arith, h)) ∙ c.name_means.ensures
  | in_default-via-else-name-lt1+in_default-1 v ↦ expand-name c.args.name.now (λ h e. omega (arith, e)) ∙ c.name_means.ensures
]

pub returns-in-120 : goal.returns-in-120
returns-in-120 c =
    let s = c.args.name.now in
    let t = take (length s - 1) (drop 1 s) in
    expand-hex s t (behind_first s) (omega arith) (omega arith) (omega arith) (omega arith) ∙ sym (ap (numeric hexadigit 16) (behind_first t)) ∙ c.number_means.ensures

pub returns-in_default-number : goal.returns-in_default-number
returns-in_default-number c =
    let s = c.args.name.now in
    let t = take (length s - 1) (drop 1 s) in
    expand-decimal s t (behind_first s) (omega arith) (omega arith) (λ h e. elim c.in_default-number.branch [
      | in_default-number-via-then-number-lt1 v ↦ grind (arith, h)
      | in_default-number-via-else-number-lt1+in_default-1 v ↦ grind (arith, e)
    ])
    ∙ c.number_means-in_default-number.ensures
