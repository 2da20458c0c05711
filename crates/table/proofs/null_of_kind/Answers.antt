-- table::null_of_kind: in each arm the kind is known, and the definition computes.
use Rattle.table.proofs.null_of_kind.Goals as goal

pub returns-in-Boolean : goal.returns-in-Boolean
returns-in-Boolean c = rw c.in-Boolean.is
