-- declaring::columns::kind_of: the names are tried in order: those that were not met play no part.
use Rattle.declaring.proofs.columns.Names.{Tried}
use Rattle.declaring.proofs.columns.kind_of.Given as goal

abbrev pub invariant-loop-name : goal.invariant-loop-name
invariant-loop-name l = Tried l.t l.name-items l.name-index
