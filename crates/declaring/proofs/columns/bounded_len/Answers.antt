-- declaring::columns::bounded_len: a bounded length, or none where nothing stands before the `*`.
use Rattle.declaring.proofs.columns.Numerals.{bounded-none, bounded-some}
use borrow.Author.Tests.{eqb-false, eqb-true}
use mathlib.Core.Path.{◌∙◌, sym}
use Rattle.declaring.proofs.columns.bounded_len.Goals as goal

pub returns-then-is_empty : goal.returns-then-is_empty
returns-then-is_empty c = bounded-none _ (eqb-true _ 0 (sym c.is_empty.ensures ∙ c.if-is_empty.true))

pub returns-in_err-length_of : goal.returns-in_err-length_of
returns-in_err-length_of c = rw c.from_residual.ensures (bounded-some _ (eqb-false _ 0 (sym c.is_empty.ensures ∙ c.if-is_empty.false)) ∙ rw c.in_err-length_of.ensures)

pub returns : goal.returns
returns c = bounded-some _ (eqb-false _ 0 (sym c.is_empty.ensures ∙ c.if-is_empty.false)) ∙ rw c.in_ok-length_of.ensures
