-- `text::goes_on` meets its contract: what the library says of the front of the text is the definition's own test.
use mathlib.Core.Path.{◌∙◌, sym}
use Rattle.text.proofs.Scan.{front-not, front-there}
use Rattle.text.proofs.goes_on.Goals as goal

pub returns-then-starts_with : goal.returns-then-starts_with
returns-then-starts_with c = front-there _ _ _ c.requires (sym c.starts_with.ensures.value ∙ c.if-starts_with.true) (c.starts_with.ensures.bound c.if-starts_with.true)

pub returns-else-starts_with : goal.returns-else-starts_with
returns-else-starts_with c = front-not _ _ _ c.requires (sym c.starts_with.ensures.value ∙ c.if-starts_with.false)
