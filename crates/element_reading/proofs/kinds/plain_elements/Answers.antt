-- `element_reading::kinds::plain_elements` meets its contract: the part is read from its first byte on.
use Rattle.table.proofs.Failures.{handed-on}
use Rattle.element_reading.proofs.kinds.Laws.{part-counted, part-refused}
use Rattle.element_reading.proofs.kinds.plain_elements.Goals as goal

pub returns-in_err-held : goal.returns-in_err-held
returns-in_err-held c = part-refused _ (handed-on c.from_residual.ensures.1) c.in_err-held.ensures

pub returns : goal.returns
returns c = part-counted _ c.in_ok-held.ensures
