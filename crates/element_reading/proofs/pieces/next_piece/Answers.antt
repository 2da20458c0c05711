-- `element_reading::pieces::next_piece` meets its contract. The invariant: the letters passed over are a word so far, as what reads it holds it.
use mathlib.Core.Path.{◌∙◌, sym}
use borrow.Author.Rules.{rules}
use Rattle.table.proofs.Failures.{handed-on}
use Rattle.element_reading.proofs.Passing.{word-broken, word-cuts, word-ends, word_more, word_none}
use Rattle.character_reading.proofs.characters.Laws.{read-as}
use Rattle.element_reading.proofs.pieces.next_piece.Goals as goal

pub loop-next-init : goal.loop-next-init
loop-next-init g c = word_none c.none-word.ensures (search rules)

pub returns-in_err-next : goal.returns-in_err-next
returns-in_err-next g c = rw (handed-on c.from_residual.ensures.1) (record { found = word-broken c.loop-next.invariant c.in_err-next.ensures.found })

pub returns-in-End : goal.returns-in-End
returns-in-End g c = record { found = word-ends c.loop-next.invariant (read-as c.args.source c.args.s.now c.loop-next.i c.in-End.is c.in_ok-next.ensures) }

pub returns-then-is_white : goal.returns-then-is_white
returns-then-is_white g c = record {
  found =
      word-cuts c.loop-next.invariant (read-as c.args.source c.args.s.now c.loop-next.i c.in-Code.is c.in_ok-next.ensures)
      (sym c.is_white.ensures ∙ c.if-is_white.true);
}

pub loop-next-preserved : goal.loop-next-preserved
loop-next-preserved g c =
    let p = c.loop-next.invariant in
    word_more p (read-as c.args.source c.args.s.now c.loop-next.i c.in-Code.is c.in_ok-next.ensures) (sym c.is_white.ensures ∙ c.if-is_white.false)
    (c.and-word.ensures p.w p.stands)
