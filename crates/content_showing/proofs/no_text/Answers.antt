-- `content_showing::no_text` meets its contract: byte by byte, and of a byte by computation.
use lib.Bits.{and_le_r}
use lib.Dec.{lit<}
use Rattle.content_showing.proofs.Marked.{sum_fits, text-marked}
use native.Mathlib.Omega.{arith}
use Rattle.content_showing.proofs.no_text.Goals as goal

pub overflow_add-high : goal.overflow_add-high
overflow_add-high c = record { fits = omega (arith, and_le_r c.args.x 9187201950435737471) }

pub overflow_add-no_amp : goal.overflow_add-no_amp
overflow_add-no_amp c = record { fits = sum_fits c.args.x 2748926567846913574 (lit< tt) }

pub overflow_add-no_lt : goal.overflow_add-no_lt
overflow_add-no_lt c = record { fits = sum_fits c.args.x 4340410370284600380 (lit< tt) }

pub overflow_add-no_gt : goal.overflow_add-no_gt
overflow_add-no_gt c = record { fits = sum_fits c.args.x 4485090715960753726 (lit< tt) }

pub returns : goal.returns
returns c = record { marked = text-marked c.args.x }
