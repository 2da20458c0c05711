-- `base64_coding::decoding::four_values` meets its contract, value by value: each character has a place in the table.
use native.Mathlib.Omega.{arith}
use Rattle.base64_coding.specs.Clauses.{values_at}
use Rattle.base64_coding.proofs.High.{low-at}
use Rattle.base64_coding.proofs.decoding.four_values.Goals as goal

pub value-requires : goal.value-requires
value-requires c = low-at _ _ c.requires.1 (omega arith)

pub value-requires-2 : goal.value-requires-2
value-requires-2 c = low-at _ _ c.requires.1 (omega arith)

pub value-requires-3 : goal.value-requires-3
value-requires-3 c = low-at _ _ c.requires.1 (omega arith)

pub value-requires-4 : goal.value-requires-4
value-requires-4 c = low-at _ _ c.requires.1 (omega arith)

pub returns : goal.returns
unfolding values_at
returns c = grind arith
