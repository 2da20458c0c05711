-- `base64_coding::decoding::three_bytes` meets its contract: each test decides what a letter's value is.
use Rattle.base64_rules.specs.Base64.{three_bytes}
use Rattle.base64_letters.proofs.Alphabet.{is-letter, no-letter}
use Rattle.base64_coding.proofs.decoding.three_bytes.Goals as goal
use Rattle.base64_coding.proofs.decoding.three_bytes.Goals.{then-w-ge64-via-then-w-ge64, then-w-ge64-via-else-w-ge64+then-x-ge64, then-w-ge64-via-else-w-ge64+else-x-ge64+then-y-ge64}
use Rattle.base64_coding.proofs.decoding.three_bytes.Goals.{then-w-ge64-via-else-w-ge64+else-x-ge64+else-y-ge64+then-z-ge64}

pub returns-then-w-ge64 : goal.returns-then-w-ge64
unfolding three_bytes
returns-then-w-ge64 c =
    elim c.then-w-ge64.branch [
      | then-w-ge64-via-then-w-ge64 w ↦ rw (no-letter _ _ c.value-w.ensures w.if-w-ge64.true)
      | then-w-ge64-via-else-w-ge64+then-x-ge64 w ↦
          rw (
            is-letter _ _ c.value-w.ensures w.if-w-ge64.false,
            no-letter _ _ c.value-x.ensures w.if-x-ge64.true,
          )
      | then-w-ge64-via-else-w-ge64+else-x-ge64+then-y-ge64 w ↦
          rw (
            is-letter _ _ c.value-w.ensures w.if-w-ge64.false,
            is-letter _ _ c.value-x.ensures w.if-x-ge64.false,
            no-letter _ _ c.value-y.ensures w.if-y-ge64.true,
          )
      | then-w-ge64-via-else-w-ge64+else-x-ge64+else-y-ge64+then-z-ge64 w ↦
          rw (
            is-letter _ _ c.value-w.ensures w.if-w-ge64.false,
            is-letter _ _ c.value-x.ensures w.if-x-ge64.false,
            is-letter _ _ c.value-y.ensures w.if-y-ge64.false,
            no-letter _ _ c.value-z.ensures w.if-z-ge64.true,
          )
    ]

pub returns : goal.returns
unfolding three_bytes
returns c = rw (
  is-letter _ _ c.value-w.ensures c.if-w-ge64.false,
  is-letter _ _ c.value-x.ensures c.if-x-ge64.false,
  is-letter _ _ c.value-y.ensures c.if-y-ge64.false,
  is-letter _ _ c.value-z.ensures c.if-z-ge64.false,
)
