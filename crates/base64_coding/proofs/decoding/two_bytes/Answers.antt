-- `base64_coding::decoding::two_bytes` meets its contract: each test decides what a letter's value is.
use Prim.Native.Nat.{◌%◌}
use borrow.Author.Tests.{eq-eqb, ne_eqb}
use Rattle.base64_rules.specs.Base64.{two_bytes}
use Rattle.base64_letters.proofs.Alphabet.{is-letter, no-letter}
use native.Mathlib.Omega.{arith}
use Rattle.base64_coding.proofs.decoding.two_bytes.Goals as goal
use Rattle.base64_coding.proofs.decoding.two_bytes.Goals.{then-w-ge64-via-then-w-ge64, then-w-ge64-via-else-w-ge64+then-x-ge64, then-w-ge64-via-else-w-ge64+else-x-ge64+then-y-ge64}

pub returns-then-w-ge64 : goal.returns-then-w-ge64
unfolding two_bytes
returns-then-w-ge64 c =
    elim c.then-w-ge64.branch [
      | then-w-ge64-via-then-w-ge64 w ↦ rw (no-letter _ _ c.value-w.ensures w.if-w-ge64.true)
      | then-w-ge64-via-else-w-ge64+then-x-ge64 w ↦
          rw (
            is-letter _ _ c.value-w.ensures w.if-w-ge64.false,
            no-letter _ _ c.value-x.ensures w.if-x-ge64.true,
          )
      | then-w-ge64-via-else-w-ge64+else-x-ge64+then-y-ge64 w ↦
          rw (
            is-letter _ _ c.value-w.ensures w.if-w-ge64.false,
            is-letter _ _ c.value-x.ensures w.if-x-ge64.false,
            no-letter _ _ c.value-y.ensures w.if-y-ge64.true,
          )
    ]

pub returns-then-y-ne0 : goal.returns-then-y-ne0
unfolding two_bytes
returns-then-y-ne0 c = rw (
  is-letter _ _ c.value-w.ensures c.if-w-ge64.false,
  is-letter _ _ c.value-x.ensures c.if-x-ge64.false,
  is-letter _ _ c.value-y.ensures c.if-y-ge64.false,
  ne_eqb (c.value-y.result % 4) 0 (omega arith),
)

pub returns : goal.returns
unfolding two_bytes
returns c = rw (
  is-letter _ _ c.value-w.ensures c.if-w-ge64.false,
  is-letter _ _ c.value-x.ensures c.if-x-ge64.false,
  is-letter _ _ c.value-y.ensures c.if-y-ge64.false,
  eq-eqb (c.value-y.result % 4) 0 (omega arith),
)
