-- `text_moving::copy_elements` meets its contract: the tags are put around what is copied, whose end tag stands behind it.
use Rattle.moving.proofs.Puts.{puts-before, puts_then}
use Rattle.text_moving.proofs.Cells.{copied}
use Rattle.text_moving.specs.Clauses.{ClosesAt}
use native.Mathlib.Omega.{arith}
use borrow.Author.Rules.{rules}
use Rattle.text_moving.proofs.copy_elements.Goals as goal

pub returns-in_err-count : goal.returns-in_err-count
returns-in_err-count c =
    rw c.from_residual.ensures (λ never. puts-before (puts_then c.put_open-inner.ensures c.in_err-count.ensures))

pub closes-requires : goal.closes-requires
closes-requires c = c.in_ok-count.ensures.reads.spells.inside

pub returns-then-not-closes : goal.returns-then-not-closes
returns-then-not-closes c = λ never. puts-before (puts_then c.put_open-inner.ensures c.in_ok-count.ensures.puts)

pub returns-then-not-count_fits : goal.returns-then-not-count_fits
returns-then-not-count_fits c = λ never. puts-before (puts_then c.put_open-inner.ensures c.in_ok-count.ensures.puts)

pub overflow_sub-row : goal.overflow_sub-row
overflow_sub-row c = let u = c.in_ok-count.ensures.puts in omega (arith, u.room, u.long)

pub returns-then-row-last-lt8 : goal.returns-then-row-last-lt8
returns-then-row-last-lt8 c = λ never. puts-before (puts_then c.put_open-inner.ensures c.in_ok-count.ensures.puts)

pub overflow_add-result : goal.overflow_add-result
overflow_add-result c =
    let ended : ClosesAt c.args.s.now c.in_ok-count.field-0.next = c.closes.ensures (c.if-not-closes.false) in
    let h = ended.inside in search rules

pub returns : goal.returns
returns c =
    let ended : ClosesAt c.args.s.now c.in_ok-count.field-0.next = c.closes.ensures (c.if-not-closes.false) in
    let a = c.args in
    λ never. copied a.column never a.s.now a.from c.put_open-inner.ensures c.in_ok-count.ensures ended
    (c.count_fits.ensures (c.if-not-count_fits.false)) c.put_close-e.ensures
