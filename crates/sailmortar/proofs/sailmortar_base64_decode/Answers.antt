-- The step's answer goes out as five numbers; its buffer is the one lent.
use Rattle.sailmortar.specs.Face.{decode_face, faced, five}
use borrow.Author.Rules.{rules}
use mathlib.Core.Path.{◌∙◌, ap}
use Rattle.sailmortar.proofs.sailmortar_base64_decode.Goals as goal

pub returns : goal.returns
unfolding decode_face faced
returns c = record { numbers = c.put_answer.ensures ∙ ap five c.decode.ensures.answer; buffer = c.decode.ensures.buffer }
