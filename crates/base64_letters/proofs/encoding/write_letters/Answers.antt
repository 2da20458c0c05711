-- `base64_letters::encoding::write_letters` meets its contract. The invariant: what is left, stored from o on, makes the whole.
use native.Mathlib.Omega.{arith}
use borrow.Author.Rules.{rules}
use mathlib.Core.Path.{◌∙◌, ap}
use lib.Seq.{sets}
use Rattle.base64_letters.proofs.Coding.{four-of, kept-all, kept-end, kept-turn, none-left, one-left, room4, some-left, two-left}
use Rattle.base64_letters.proofs.encoding.write_letters.Goals as goal

pub loop-a-init : goal.loop-a-init
loop-a-init c = kept-all _ _ c.requires

pub put4-requires : goal.put4-requires
put4-requires c = room4 c.loop-a.invariant (omega arith)

pub loop-a-preserved : goal.loop-a-preserved
loop-a-preserved c =
    kept-turn c.loop-a.invariant (omega arith) c.as_chunks.ensures.front c.letters_of.ensures
    (c.put4.ensures ∙ ap (sets c.loop-a.out c.loop-a.o) (four-of c.letters_of.result (search rules)))

pub put4-requires-in-len1 : goal.put4-requires-in-len1
put4-requires-in-len1 c =
    some-left _ (kept-end c.loop-a.invariant c.loop-a.auto.a-index-end c.loop-a-test.false c.as_chunks.ensures.front_len c.as_chunks.ensures.back) (omega arith) (omega arith)

pub put4-requires-in-len2 : goal.put4-requires-in-len2
put4-requires-in-len2 c =
    some-left _ (kept-end c.loop-a.invariant c.loop-a.auto.a-index-end c.loop-a-test.false c.as_chunks.ensures.front_len c.as_chunks.ensures.back) (omega arith) (omega arith)

pub returns-then-rest-lt1 : goal.returns-then-rest-lt1
returns-then-rest-lt1 c =
    none-left _ (kept-end c.loop-a.invariant c.loop-a.auto.a-index-end c.loop-a-test.false c.as_chunks.ensures.front_len c.as_chunks.ensures.back) (search rules)

pub returns-in-len1 : goal.returns-in-len1
returns-in-len1 c =
    one-left _ _ _ (kept-end c.loop-a.invariant c.loop-a.auto.a-index-end c.loop-a-test.false c.as_chunks.ensures.front_len c.as_chunks.ensures.back) (omega arith) (omega arith)
    c.letters_of-in-len1.ensures c.put4-in-len1.ensures

pub returns-in-len2 : goal.returns-in-len2
returns-in-len2 c =
    two-left _ _ _ (kept-end c.loop-a.invariant c.loop-a.auto.a-index-end c.loop-a-test.false c.as_chunks.ensures.front_len c.as_chunks.ensures.back) (omega arith) (omega arith)
    c.letters_of-in-len2.ensures c.put4-in-len2.ensures
