-- `text::ends` meets its contract: the word stands where white space ends.
use Rattle.text.proofs.Scan.{ends-from}
use Rattle.text.proofs.ends.Goals as goal

pub returns : goal.returns
returns c = ends-from _ c.skip_white.ensures c.goes_on.ensures
