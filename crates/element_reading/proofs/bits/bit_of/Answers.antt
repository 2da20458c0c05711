-- `element_reading::bits::bit_of` meets its contract: behind the end of the word nothing is a bit, before it each key of `match` is a
-- case.
use Rattle.table.specs.Bytes.{between}
use Rattle.tabledata.specs.TableData.{bit_letter}
use Rattle.element_reading.proofs.bits.Laws.{none-of}
use native.Mathlib.Omega.{arith}
use Rattle.element_reading.proofs.bits.bit_of.Goals as goal

pub returns-in-48 : goal.returns-in-48
unfolding bit_letter between
returns-in-48 c = rw (c.if-not-closed.true, c.in-48.is)

pub returns-in-49 : goal.returns-in-49
unfolding bit_letter between
returns-in-49 c = rw (c.if-not-closed-2.true, c.in-49.is)

pub returns-in_default-3 : goal.returns-in_default-3
returns-in_default-3 c = none-of c.args.closed c.args.c (λ e. grind (arith, e)) (λ e. grind (arith, e))
