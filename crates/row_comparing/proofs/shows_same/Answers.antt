-- row_comparing::shows_same: by what each shows, the definition's own cases.
use Rattle.compare.specs.Compare.{same_cell}
use Rattle.row_comparing.proofs.shows_same.Goals as goal

pub returns-in-None-other : goal.returns-in-None-other
unfolding same_cell
returns-in-None-other c = rw (c.in-None.is, c.in-None-other.is)

pub returns-in-Some-other : goal.returns-in-Some-other
unfolding same_cell
returns-in-Some-other c = rw (c.in-None.is, c.in-Some-other.is)

pub returns-in-None-other-2 : goal.returns-in-None-other-2
unfolding same_cell
returns-in-None-other-2 c = rw (c.in-Some.is, c.in-None-other-2.is)

pub returns-in-Some-other-2 : goal.returns-in-Some-other-2
unfolding same_cell
returns-in-Some-other-2 c = rw (c.in-Some.is, c.in-Some-other-2.is, c.same_elements.ensures)
