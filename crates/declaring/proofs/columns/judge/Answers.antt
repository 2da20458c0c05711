-- declaring::columns::judge: a FIELD's column: its kind, its length and its null value, the first that is refused first.
use Rattle.std.specs.Prelude.{None}
use Rattle.declaring.proofs.Asked.{given-by, refused-by}
use Rattle.table.proofs.Failures.{handed-on}
use Rattle.declaring.specs.Readers.{element_of, read_as}
use Rattle.fields.specs.Fields.{judge}
use Rattle.table.specs.Cell.{column_of, is_scalar}
use Rattle.table.specs.Result.{good}
use Rattle.table.specs.declared.Reason.TheVariants.{Arraysize, Datatype}
use mathlib.Core.Path.{◌∙◌, ◌≡◌, ap, sym}
use Rattle.declaring.proofs.columns.judge.Goals as goal

pub returns-in_err-kind : goal.returns-in_err-kind
unfolding judge element_of
returns-in_err-kind c =
    let no = refused-by c.kind_of.result Datatype _ (sym c.ok_or.ensures.value ∙ c.in_err-kind.was) in
    rw (handed-on c.from_residual.ensures.1, no.1) (rw (c.kind_of.ensures ∙ ap (read_as 2) no.0))

pub returns-in_err-len : goal.returns-in_err-len
unfolding judge element_of
returns-in_err-len c =
    let kind = c.kind_of.ensures ∙ ap (read_as 2) (given-by c.kind_of.result Datatype _ (sym c.ok_or.ensures.value ∙ c.in_ok-kind.was)) in
    let no = refused-by c.read_len.result Arraysize _ (sym c.ok_or-2.ensures.value ∙ c.in_err-len.was) in
    rw (handed-on c.from_residual-in_err-len.ensures.1, no.1) (rw (kind, c.read_len.ensures ∙ ap (read_as 3) no.0))

pub returns-in_err-null : goal.returns-in_err-null
unfolding judge element_of
returns-in_err-null c =
    let kind = c.kind_of.ensures ∙ ap (read_as 2) (given-by c.kind_of.result Datatype _ (sym c.ok_or.ensures.value ∙ c.in_ok-kind.was)) in
    let len = c.read_len.ensures ∙ ap (read_as 3) (given-by c.read_len.result Arraysize _ (sym c.ok_or-2.ensures.value ∙ c.in_ok-len.was)) in
    let scalar_is : c.is_scalar-scalar.result ≡ is_scalar (column_of c.in_ok-kind.kind c.in_ok-len.len None) = c.is_scalar-scalar.ensures ∙ ap is_scalar c.column_of.ensures in
    rw (handed-on c.from_residual-in_err-null.ensures.1) (rw (kind, len, ← scalar_is, c.in_err-null.ensures))

pub returns : goal.returns
unfolding judge element_of
returns c =
    let kind = c.kind_of.ensures ∙ ap (read_as 2) (given-by c.kind_of.result Datatype _ (sym c.ok_or.ensures.value ∙ c.in_ok-kind.was)) in
    let len = c.read_len.ensures ∙ ap (read_as 3) (given-by c.read_len.result Arraysize _ (sym c.ok_or-2.ensures.value ∙ c.in_ok-len.was)) in
    let scalar_is : c.is_scalar-scalar.result ≡ is_scalar (column_of c.in_ok-kind.kind c.in_ok-len.len None) = c.is_scalar-scalar.ensures ∙ ap is_scalar c.column_of.ensures in
    rw (kind, len, ← scalar_is, c.in_ok-null.ensures) (ap good (sym c.column_of-2.ensures))
