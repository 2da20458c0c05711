-- One call of `sailmortar_compare`: its contract is all that the laws ask.
use borrow.Author.Rules.{rules}
use Rattle.compare_promises.proofs.Nights.{compared-exactly, not-kinds}
use Rattle.promises.proofs.Laws.{faces}
use Rattle.sailmortar.specs.Face.{compare_face}
use Rattle.compare_promises.proofs.compared.Goals as goal

pub returns : goal.returns
returns c =
    let told = c.sailmortar_compare.ensures in
    let face = faces {f = compare_face _ _ _ _ _ _} told.numbers told.buffer in record { unnamed = not-kinds _ _ _ _ _ _ face; compared = compared-exactly _ _ _ _ _ _ face }
