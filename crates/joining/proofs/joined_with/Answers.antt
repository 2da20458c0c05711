-- joining::joined_with: the sums are those that are counted; then the record of the definition, by what is final.
use native.Mathlib.Omega.{arith}
use mathlib.Core.Path.{◌∙◌, refl, sym}
use Rattle.parts.proofs.Laws.{Counted, is-counted}
use Rattle.parts.specs.Join.{ended_with, gone_on, joined_with, most_count}
use Rattle.joining.proofs.joined_with.Goals as goal

pub overflow_add-gone_on : goal.overflow_add-gone_on
unfolding most_count
overflow_add-gone_on c =
    let counted : Counted c.args.j c.args.p = is-counted c.args.j c.args.p c.requires.0 in
    record { fits = omega (arith, counted.rows) }

pub overflow_add-gone_on-2 : goal.overflow_add-gone_on-2
overflow_add-gone_on-2 c = record { fits = omega (arith, c.requires.1, c.ranges.room) }

pub overflow_add-gone_on-3 : goal.overflow_add-gone_on-3
unfolding most_count
overflow_add-gone_on-3 c =
    let counted : Counted c.args.j c.args.p = is-counted c.args.j c.args.p c.requires.0 in
    record { fits = omega (arith, counted.place) }

pub overflow_add-gone_on-4 : goal.overflow_add-gone_on-4
unfolding most_count
overflow_add-gone_on-4 c =
    let counted : Counted c.args.j c.args.p = is-counted c.args.j c.args.p c.requires.0 in
    record { fits = omega (arith, counted.parts) }

pub row_behind-requires : goal.row_behind-requires
unfolding most_count
row_behind-requires c =
    let counted : Counted c.args.j c.args.p = is-counted c.args.j c.args.p c.requires.0 in
    omega (arith, counted.row)

pub returns-then-is_final : goal.returns-then-is_final
unfolding joined_with ended_with
returns-then-is_final c =
    rw (sym c.is_final.ensures ∙ c.if-is_final.true, c.row_behind.ensures) refl

pub returns : goal.returns
unfolding joined_with gone_on
returns c = rw (sym c.is_final.ensures ∙ c.if-is_final.false) refl
