-- `content_reading::line_end` meets its contract: a tab and a line's end stand for themselves.
use native.Mathlib.Omega.{arith}
use Rattle.content_reading.proofs.Chars.{low-letter}
use Rattle.content_reading.proofs.line_end.Goals as goal

pub returns-then-c-eq10 : goal.returns-then-c-eq10
returns-then-c-eq10 c = low-letter _ _ 10 (omega arith) c.if-c-eq10.true (omega arith) (omega arith)

pub returns-then-c-eq9 : goal.returns-then-c-eq9
returns-then-c-eq9 c = low-letter _ _ 9 (omega arith) c.if-c-eq9.true (omega arith) (omega arith)
