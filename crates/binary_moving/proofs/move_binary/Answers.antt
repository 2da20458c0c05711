-- binary_moving::move_binary: the count, then the cell after it.
use mathlib.Core.Path.{◌∙◌, ap, subst}
use Rattle.binary_moving.proofs.Counted.{whole-moved}
use Rattle.binary_reading.specs.Clauses.{CountWithin, count_as}
use Rattle.moving.proofs.Puts.{puts_none}
use Rattle.table.specs.Cell.{bound}
use native.Mathlib.Omega.{arith}
use Rattle.binary_moving.proofs.move_binary.Goals as goal

pub returns-then-row-o-lt-ROOM : goal.returns-then-row-o-lt-ROOM
returns-then-row-o-lt-ROOM c = λ h. puts_none c.args.row.now c.args.o c.requires.2

pub returns-in_default : goal.returns-in_default
returns-in_default c = λ h. puts_none c.args.row.now c.args.o c.requires.2

pub move_counted-requires : goal.move_counted-requires
move_counted-requires c =
    let w = subst (CountWithin c.args.s.now c.args.at (bound c.args.column.len)) c.in-Ok.is c.read_count.ensures.within in
    (c.requires.1, omega (arith, w.2, c.requires.1), w.1, omega (arith, c.if-row-o-lt-ROOM.false, c.requires.2))

pub returns : goal.returns
returns c =
    let q = c.in-Ok.is in
    let r = c.read_count.ensures in
    let w = subst (CountWithin c.args.s.now c.args.at (bound c.args.column.len)) q r.within in
    let m = c.move_counted in
    λ h. whole-moved c.args.from c.args.to c.args.column c.args.flagged _ c.args.s.now c.args.at _ c.args.row.now c.args.o
    m.new.row m.result h
    (r.found ∙ ap (count_as c.args.s.now) q) w.0 (m.ensures h)
