-- `text_moving::cell_place` meets its contract: `<` is no white space.
use Rattle.text_moving.proofs.Tags.{bare-skipped}
use native.Mathlib.Omega.{arith}
use Rattle.text_moving.proofs.cell_place.Goals as goal

pub returns-then-s-at-eq60 : goal.returns-then-s-at-eq60
returns-then-s-at-eq60 c = bare-skipped _ _ (omega arith) c.if-s-at-eq60.true
