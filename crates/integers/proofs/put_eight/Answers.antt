-- `integers::put_eight` meets its contract: the library's bytes are the digits.
use mathlib.Core.Path.{◌∙◌}
use Rattle.integers.proofs.Places.{high_first}
use Rattle.table.proofs.Wrote.{wrote_as}
use Rattle.integers.proofs.put_eight.Goals as goal

pub returns : goal.returns
returns c = wrote_as (c.to_be_bytes.ensures ∙ high_first 8 c.args.x) c.put_bytes.ensures
