-- `base64_coding::decoding::one_byte` meets its contract: each test decides what a letter's value is.
use Prim.Native.Nat.{◌%◌}
use borrow.Author.Tests.{eq-eqb, ne_eqb}
use Rattle.base64_rules.specs.Base64.{one_byte}
use Rattle.base64_letters.proofs.Alphabet.{is-letter, no-letter}
use native.Mathlib.Omega.{arith}
use Rattle.base64_coding.proofs.decoding.one_byte.Goals as goal
use Rattle.base64_coding.proofs.decoding.one_byte.Goals.{then-w-ge64-via-then-w-ge64, then-w-ge64-via-else-w-ge64+then-x-ge64}

pub returns-then-w-ge64 : goal.returns-then-w-ge64
unfolding one_byte
returns-then-w-ge64 c =
    elim c.then-w-ge64.branch [
      | then-w-ge64-via-then-w-ge64 w ↦ rw (no-letter _ _ c.value-w.ensures w.if-w-ge64.true)
      | then-w-ge64-via-else-w-ge64+then-x-ge64 w ↦ rw (is-letter _ _ c.value-w.ensures w.if-w-ge64.false, no-letter _ _ c.value-x.ensures w.if-x-ge64.true)
    ]

pub returns-then-x-ne0 : goal.returns-then-x-ne0
unfolding one_byte
returns-then-x-ne0 c = rw (
  is-letter _ _ c.value-w.ensures c.if-w-ge64.false,
  is-letter _ _ c.value-x.ensures c.if-x-ge64.false,
  ne_eqb (c.value-x.result % 16) 0 (omega arith),
)

pub returns : goal.returns
unfolding one_byte
returns c = rw (
  is-letter _ _ c.value-w.ensures c.if-w-ge64.false,
  is-letter _ _ c.value-x.ensures c.if-x-ge64.false,
  eq-eqb (c.value-x.result % 16) 0 (omega arith),
)
