-- One call of `sailmortar_declare`: its contract is all that the law asks.
use borrow.Author.Rules.{rules}
use Rattle.step_promises.proofs.Steps.{declares}
use Rattle.step_promises.proofs.declared.Goals as goal

pub returns : goal.returns
returns c = declares _ c.sailmortar_declare.ensures
