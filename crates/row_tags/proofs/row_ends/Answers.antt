-- `row_tags::row_ends` meets its contract: white space, then the whole tag.
use mathlib.Core.Path.{ap}
use Rattle.table.specs.Bytes.{bytes, tag}
use Rattle.tabledata.specs.TableData.{close-TR}
use Rattle.text.proofs.Scan.{tag-from}
use Rattle.row_tags.proofs.row_ends.Goals as goal

pub returns : goal.returns
unfolding close-TR
returns c = let w = c.skip_white-i.ensures in tag-from _ w.low (λ n. ap (tag n (bytes "</TR")) w.rest) c.whole_tag.ensures
