-- planned_moving::move_bytes: not to text; else the bytes, copied.
use mathlib.Core.Path.{◌∙◌, refl, sym}
use native.Mathlib.Omega.{arith}
use Rattle.moving.proofs.Puts.{puts_none}
use Rattle.planned_moving.proofs.move_bytes.Goals as goal

pub returns-then-is_text : goal.returns-then-is_text
returns-then-is_text c = puts_none c.args.row.now c.args.o (omega (arith, c.requires.1))

pub returns : goal.returns
returns c =
    (sym c.is_text.ensures ∙ c.if-is_text.false, refl, refl, c.copy-e.ensures)
