-- `text::same_bytes` meets its contract: the library's `==` is the definition's test, byte by byte.
use mathlib.Core.Path.{◌∙◌}
use Rattle.text.proofs.Scan.{same-pointwise}
use Rattle.text.proofs.same_bytes.Goals as goal

pub returns : goal.returns
returns c = c.eq.ensures ∙ same-pointwise _ _
