-- cell_putting::fill_size: what a fixed column of characters has room for behind them.
use mathlib.Core.Path.{◌∙◌, sym}
use Rattle.cell_putting.specs.Clauses.{fill_size}
use native.Mathlib.Omega.{arith}
use Rattle.cell_putting.proofs.fill_size.Goals as goal

pub returns-then-not-is_char : goal.returns-then-not-is_char
unfolding fill_size
returns-then-not-is_char c = rw (sym c.is_char.ensures ∙ c.if-not-is_char.true)

pub returns-then-room-count : goal.returns-then-room-count
unfolding fill_size
returns-then-room-count c = rw (sym c.is_char.ensures ∙ c.if-not-is_char.false) (omega (arith, c.room_in-room.ensures, c.if-room-count.true))

pub returns : goal.returns
unfolding fill_size
returns c = rw (sym c.is_char.ensures ∙ c.if-not-is_char.false) (omega (arith, c.room_in-room.ensures))
