-- row_comparing::end_rows: what ends the row of each, as its own function has it.
use mathlib.Core.Path.{◌∙◌, ap, refl}
use Rattle.row_comparing.specs.Clauses.{unread-first, unread-second}
use Rattle.row_reading.proofs.Parts.{closed-within}
use Rattle.row_reading.specs.Clauses.{close_as}
use Rattle.row_comparing.proofs.end_rows.Goals as goal

pub returns-in_default : goal.returns-in_default
returns-in_default c =
    let e = c.end_row in
    unread-first (e.ensures.closed ∙ ap (close_as _) c.in_default.is)

pub returns-in_default-end_row : goal.returns-in_default-end_row
returns-in_default-end_row c =
    let e = c.end_row-2 in
    unread-second (e.ensures.closed ∙ ap (close_as _) c.in_default-end_row.is)

pub returns : goal.returns
returns c =
    let e = c.end_row in
    let f = c.end_row-2 in
    let next = c.in-Ok.is in
    let other = c.in-Ok-end_row.is in
    let w = closed-within _ _ _ _ e.ensures _ next in
    let v = closed-within _ _ _ _ f.ensures _ other in
    (refl, e.ensures.closed ∙ ap (close_as _) next, f.ensures.closed ∙ ap (close_as _) other, w.0, w.1, v.0, v.1)
