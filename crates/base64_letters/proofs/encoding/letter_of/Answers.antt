-- `base64_letters::encoding::letter_of` meets its contract: by which of its tests the letter was set.
use mathlib.Core.Path.{◌∙◌, ap, sym}
use native.Mathlib.Omega.{arith}
use Rattle.base64_rules.specs.Base64.{letter}
use Rattle.base64_letters.proofs.Alphabet.{letter-digit, letter-lower, letter-upper}
use Rattle.base64_letters.proofs.encoding.letter_of.Goals as goal
use Rattle.base64_letters.proofs.encoding.letter_of.Goals.{else-v-eq62, else-v-ge26, else-v-ge52, then-v-eq62, then-v-ge26, then-v-ge52}

pub returns-then-v-eq63 : goal.returns-then-v-eq63
unfolding letter
returns-then-v-eq63 c = sym (ap letter c.if-v-eq63.true)

pub returns-else-v-eq63 : goal.returns-else-v-eq63
unfolding letter
returns-else-v-eq63 c =
    elim c.if-v-eq62.branch [
      | then-v-eq62 w ↦ w.r-is ∙ sym (ap letter w.if-v-eq62.true)
      | else-v-eq62 w ↦ w.r-is ∙
          elim c.if-v-ge52.branch [
            | then-v-ge52 v ↦ v.r-is ∙ sym (letter-digit _ v.if-v-ge52.true (omega arith))
            | else-v-ge52 v ↦ v.r-is ∙
                elim c.if-v-ge26.branch [
                  | then-v-ge26 u ↦ u.r-is ∙ sym (letter-lower _ u.if-v-ge26.true (omega arith))
                  | else-v-ge26 u ↦ u.r-is ∙ sym (letter-upper _ (omega arith))
                ]
          ]
    ]
