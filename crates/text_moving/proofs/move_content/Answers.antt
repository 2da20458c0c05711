-- `text_moving::move_content` meets its contract: by what may stand for null in the column.
use Rattle.text_moving.proofs.move_content.Goals as goal

pub returns-in-Some-Integer : goal.returns-in-Some-Integer
returns-in-Some-Integer c =
    let x = rw c.in-Some-Integer.field-0-is at c.in-Some-Integer.ensures in
    c.move_integer.ensures x.0 x.1

pub returns-in-Some-Truth : goal.returns-in-Some-Truth
returns-in-Some-Truth c =
    let x = rw c.in-Some-Truth.field-0-is at c.in-Some-Truth.ensures in
    c.move_truth.ensures x.0 x.1
