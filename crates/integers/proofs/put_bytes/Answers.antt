-- `integers::put_bytes` meets its contract: the bytes are copied over the part between the two places.
use mathlib.Core.Path.{refl}
use Rattle.table.proofs.Wrote.{wrote-part}
use Rattle.integers.proofs.put_bytes.Goals as goal

pub returns : goal.returns
returns c = rw c.copy_from_slice.ensures.after (wrote-part _ _ _ _ refl c.requires)
