-- The numbers of the answer of `declare`, in both of its cases.
use Rattle.sailmortar.proofs.Numbers.{declared-numbers, numbers_of}
use Rattle.sailmortar.specs.Face.{declare_face}
use mathlib.Core.Path.{◌∙◌, ap, sym}
use Rattle.sailmortar.proofs.sailmortar_declare.Goals as goal

pub returns-in-Ok : goal.returns-in-Ok
unfolding declare_face
returns-in-Ok c = declared-numbers _ c.in-Ok.ensures

pub returns-in-Err : goal.returns-in-Err
unfolding declare_face
returns-in-Err c = rw c.number.ensures (declared-numbers _ c.in-Err.ensures)
