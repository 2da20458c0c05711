-- `content_showing::show_integers` meets its contract, once over the width: before each turn the first k integers are put, a space behind each.
use Rattle.content_showing.proofs.Words.{IntegersPut}
use Rattle.content_showing.proofs.show_integers.Given as goal

abbrev pub invariant-loop : goal.invariant-loop
invariant-loop l = IntegersPut l.integer l.s l.at l.initial.row l.o l.row l.from l.e l.counter
