-- declaring::elements::read_end_tag: the tag behind white space, and the value that was held before it.
use Rattle.declaring.proofs.elements.Tags.{end-tag-no, end-tag-yes}
use Rattle.declaring.specs.Readers.{BodyIs}
use mathlib.Core.Path.{subst, sym}
use Rattle.declaring.proofs.elements.read_end_tag.Goals as goal

pub returns-in_err-next : goal.returns-in_err-next
returns-in_err-next c = subst (BodyIs _ _ _) (sym c.from_residual.ensures) (end-tag-no _ _ c.args.null _ c.skip_white.ensures c.in_err-next.ensures)

pub returns : goal.returns
returns c = end-tag-yes _ _ c.args.null _ c.skip_white.ensures _ c.in_ok-next.ensures c.requires.1
