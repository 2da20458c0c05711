-- `text::whole_tag` meets its contract: the word, and where it is there its end.
use mathlib.Core.Path.{subst, sym}
use Rattle.text.proofs.Scan.{tag-not, tag-there}
use Rattle.text.specs.Clauses.{TagIs}
use Rattle.text.proofs.whole_tag.Goals as goal

pub returns-in_err-goes_on : goal.returns-in_err-goes_on
returns-in_err-goes_on c = subst (TagIs _ _ _) (sym c.from_residual.ensures) (tag-not _ (c.in_err-goes_on.ensures))

pub returns : goal.returns
returns c = tag-there _ c.in_ok-goes_on.ensures c.ends.ensures
