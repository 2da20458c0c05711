-- `content_copying::other_letter` meets its contract: a `>` spells itself.
use native.Mathlib.Omega.{arith}
use Rattle.content_copying.proofs.Texts.{bare-letter}
use Rattle.content_copying.proofs.other_letter.Goals as goal

pub returns-then-s-at-eq62 : goal.returns-then-s-at-eq62
returns-then-s-at-eq62 c = bare-letter _ _ (omega arith) c.if-s-at-eq62.true
