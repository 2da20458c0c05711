-- `row_tags::write_row_start` meets its contract: the bytes are the tag's.
use Rattle.table.proofs.Wrote.{wrote-long}
use Rattle.tabledata.specs.TableData.{open-TR}
use Rattle.row_tags.proofs.write_row_start.Goals as goal

pub shape_of-out : goal.shape_of-out
shape_of-out c = wrote-long c.put_bytes.ensures

pub returns : goal.returns
unfolding open-TR
returns c = c.put_bytes.ensures
