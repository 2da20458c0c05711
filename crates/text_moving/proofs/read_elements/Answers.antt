-- `text_moving::read_elements` meets its contract: the bytes are put behind room for their count, which is filled in when the end tag is met.
use Rattle.cell_putting.proofs.Stores.{puts_lower}
use Rattle.text_moving.proofs.Cells.{filled_in}
use Rattle.text_moving.specs.Clauses.{ClosesAt, Counts}
use native.Mathlib.Omega.{arith}
use borrow.Author.Rules.{rules}
use Rattle.text_moving.proofs.read_elements.Goals as goal

pub returns-in_err-count : goal.returns-in_err-count
returns-in_err-count c =
    let u = puts_lower {o = c.args.o} c.in_err-count.ensures (omega arith) in
    rw c.from_residual.ensures (λ never. (u, u))

pub closes-requires : goal.closes-requires
closes-requires c = c.in_ok-count.ensures.reads.spells.inside

pub returns-then-not-closes : goal.returns-then-not-closes
returns-then-not-closes c =
    let untouched = puts_lower {o = c.args.o} c.in_ok-count.ensures.puts (omega arith) in
    λ never. (untouched, untouched)

pub returns-then-not-count_fits : goal.returns-then-not-count_fits
returns-then-not-count_fits c =
    let untouched = puts_lower {o = c.args.o} c.in_ok-count.ensures.puts (omega arith) in
    λ never. (untouched, untouched)

pub overflow_add-end : goal.overflow_add-end
overflow_add-end c =
    let ended : ClosesAt c.args.s.now c.in_ok-count.field-0.next = c.closes.ensures (c.if-not-closes.false) in
    let h = ended.inside in search rules

pub fill_up-requires : goal.fill_up-requires
fill_up-requires c =
    let fits : Counts c.args.column c.in_ok-count.field-0.count = c.count_fits.ensures (c.if-not-count_fits.false) in
    let u = c.in_ok-count.ensures.puts in
    (omega (arith, fits.few, c.requires.1), omega (arith, u.long, c.requires.2), omega (arith, u.room, u.long))

pub returns : goal.returns
returns c =
    let ended : ClosesAt c.args.s.now c.in_ok-count.field-0.next = c.closes.ensures (c.if-not-closes.false) in
    let fits : Counts c.args.column c.in_ok-count.field-0.count = c.count_fits.ensures (c.if-not-count_fits.false) in
    let a = c.args in
    λ never. filled_in a.column never a.s.now a.from _
    fits c.count_size.ensures.1 c.in_ok-count.ensures ended
    c.fill_up.ensures
