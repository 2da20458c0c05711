-- `element_reading::elements::as_element` meets its contract: the cast of a code keeps it.
use native.Mathlib.Omega.{arith}
use mir.Facts.{to_z_pos}
use mir.Syntax.{w64}
use Rattle.element_reading.proofs.elements.as_element.Goals as goal

pub returns : goal.returns
returns c = to_z_pos w64 (omega arith)
