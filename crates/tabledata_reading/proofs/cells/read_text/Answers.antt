-- `tabledata_reading::cells::read_text` meets its contract: how the cell begins, its elements, and what they come to in the column.
use Prim.Native.Nat.{ℕ}
use mathlib.Core.List.{List}
use mathlib.Core.Path.{◌∙◌, ◌≡◌, ap, subst}
use Rattle.std.specs.Prelude.{Option, Some}
use Rattle.table.proofs.Failures.{handed-on}
use Rattle.character_reading.proofs.characters.Laws.{nothing-found}
use Rattle.tabledata_reading.proofs.cells.Laws.{text-broken, text-empty, text-refused, text-shows, text-shows-none}
use Rattle.tabledata_reading.specs.Openings.{OpeningIs}
use Rattle.tabledata_reading.specs.declared.openings.Opening.{Opening}
use Rattle.tabledata_reading.proofs.cells.read_text.Goals as goal

-- how the cell begins, as the match on it has it
begins : {s : List ℕ} {place : ℕ} {r : Option Opening} {k j : Opening} → r ≡ Some k → k ≡ j → OpeningIs s place r → OpeningIs s place (Some j)
begins {s} {place} q e t = subst (OpeningIs s place) (q ∙ ap {B = Option Opening} Some e) t

pub returns-in_err-next : goal.returns-in_err-next
returns-in_err-next c =
    let e = c.in_err-next.ensures in
    rw (nothing-found c.from_residual.ensures.1 e.value e.ok_part) (text-broken _ (subst (OpeningIs _ _) e.ok_part c.open_cell.ensures))

pub returns-in-Empty : goal.returns-in-Empty
returns-in-Empty c = text-empty _ (begins c.in_ok-next.ensures.ok_part c.in-Empty.is c.open_cell.ensures)

pub returns-in_err-held-in-Content : goal.returns-in_err-held-in-Content
returns-in_err-held-in-Content c =
    rw (handed-on c.from_residual-in_err-held-in-Content.ensures.1)
    (text-refused _ (begins c.in_ok-next.ensures.ok_part c.in-Content.is c.open_cell.ensures) c.in_err-held-in-Content.ensures)

pub returns-in_err-shown-in-Content : goal.returns-in_err-shown-in-Content
returns-in_err-shown-in-Content c =
    rw (handed-on c.from_residual-in_err-shown-in-Content.ensures.1)
    (text-shows-none _ (begins c.in_ok-next.ensures.ok_part c.in-Content.is c.open_cell.ensures) c.in_ok-held-in-Content.ensures
    c.in_err-shown-in-Content.ensures)

pub returns-in_ok-shown-in-Content : goal.returns-in_ok-shown-in-Content
returns-in_ok-shown-in-Content c =
    text-shows _ (begins c.in_ok-next.ensures.ok_part c.in-Content.is c.open_cell.ensures) c.in_ok-held-in-Content.ensures c.in_ok-shown-in-Content.ensures
