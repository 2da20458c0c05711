-- declaring::columns::fixed_len: a fixed length.
use Rattle.declaring.specs.Readers.{fixed_len}
use Rattle.declaring.proofs.columns.fixed_len.Goals as goal

pub returns-in_err-length_of : goal.returns-in_err-length_of
unfolding fixed_len
returns-in_err-length_of c = rw c.from_residual.ensures (rw c.in_err-length_of.ensures)

pub returns : goal.returns
unfolding fixed_len
returns c = rw c.in_ok-length_of.ensures
