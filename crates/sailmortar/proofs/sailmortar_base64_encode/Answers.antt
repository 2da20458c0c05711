-- The step's answer goes out as five numbers; its buffer is the one lent.
use Rattle.sailmortar.specs.Face.{encode_face, faced, five}
use borrow.Author.Rules.{rules}
use mathlib.Core.Path.{◌∙◌, ap}
use Rattle.sailmortar.proofs.sailmortar_base64_encode.Goals as goal

pub returns : goal.returns
unfolding encode_face faced
returns c = record { numbers = c.put_answer.ensures ∙ ap five c.encode.ensures.answer; buffer = c.encode.ensures.buffer }
