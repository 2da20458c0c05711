-- declaring::columns::read_len: the length of a column: no arraysize is `1`.
use Rattle.fields.specs.Fields.{len_of}
use Rattle.declaring.proofs.columns.read_len.Goals as goal

pub returns-in-None : goal.returns-in-None
unfolding len_of
returns-in-None c = rw c.in-None.is

pub returns-in-Some : goal.returns-in-Some
unfolding len_of
returns-in-Some c = rw c.in-Some.is c.len_of.ensures
