-- row_comparing::compare_cell: what two readers found of a column is one answer (paired).
use Rattle.row_comparing.proofs.Pairs.{paired}
use Rattle.row_comparing.specs.Clauses.{unread-first, unread-second}
use Rattle.row_comparing.proofs.compare_cell.Goals as goal

pub returns-in_default-clause-pairs_cell : goal.returns-in_default-clause-pairs_cell
returns-in_default-clause-pairs_cell c = unread-first c.in_default.ensures.found

pub returns-in_default-read_cell-clause-pairs_cell : goal.returns-in_default-read_cell-clause-pairs_cell
returns-in_default-read_cell-clause-pairs_cell c = unread-second c.in_default-read_cell.ensures.found

pub returns : goal.returns
returns c =
    let f = c.in-Ok.ensures in
    let g = c.in-Ok-read_cell.ensures in
    record {
      pairs_cell = rw c.shows_same.ensures (paired _ _ _ _ _ _ _ _ _ _ _ _ f g);
      a_len_unchanged = f.long;
      b_len_unchanged = g.long;
    }
