-- `element_reading::elements::put` meets its contract: a place beyond the scratch sets nothing.
use mathlib.Core.Path.{sym}
use lib.Seq.{set_out}
use Rattle.element_reading.proofs.elements.put.Goals as goal

pub returns-else-count-scratch : goal.returns-else-count-scratch
returns-else-count-scratch c = sym (set_out _ _ _ c.if-count-scratch.false)
