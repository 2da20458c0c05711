-- `element_reading::numerals::letter_of` meets its contract: by its test.
use native.Mathlib.Omega.{arith}
use mathlib.Core.Path.{sym}
use Rattle.element_reading.proofs.numerals.Laws.{letter-low, letter-none}
use Rattle.element_reading.proofs.numerals.letter_of.Goals as goal

pub returns-then-c-lt256 : goal.returns-then-c-lt256
returns-then-c-lt256 c = sym (letter-low c.args.c c.if-c-lt256.true)

pub returns : goal.returns
returns c = sym (letter-none c.args.c (omega arith))
