-- One call of `sailmortar_base64_decode`: its contract is all that the law asks.
use borrow.Author.Rules.{rules}
use Rattle.promises.proofs.Laws.{faces}
use Rattle.step_promises.proofs.Steps.{decodes}
use Rattle.step_promises.proofs.decoded.Goals as goal

pub returns : goal.returns
returns c = let k = c.sailmortar_base64_decode.ensures in decodes _ _ (faces k.numbers k.buffer)
