-- `binary_writing::null_size` meets its contract: the null element's column is a scalar; else an empty cell stands for null, where one can.
use Rattle.binary_writing.proofs.Sizes.{elements-length, zeros-length}
use Rattle.binary_writing.proofs.Writing.{empty-zeros, null-bound, null-empty, null-none, null-some}
use Rattle.table.specs.Clauses.{size_of}
use Rattle.table.specs.Result.{good}
use lib.ListN.{length}
use mathlib.Core.List.{[], ◌∷◌}
use mathlib.Core.Path.{◌∙◌, ap, sym}
use Rattle.binary_writing.proofs.null_size.Goals as goal

pub elements_size-requires : goal.elements_size-requires
elements_size-requires c = (c.requires, null-bound _ _ (sym c.null_element.ensures ∙ c.in-Some.is))

pub returns-in-Some : goal.returns-in-Some
returns-in-Some c =
    let a = c.args in
    let q = sym c.null_element.ensures ∙ c.in-Some.is in
    ap good (c.elements_size.ensures ∙ sym (elements-length a.column (_ ∷ []) (null-bound a.column _ q))) ∙ sym (ap size_of (null-some a.column _ q))

pub returns-in-None : goal.returns-in-None
returns-in-None c =
    let a = c.args in
    let q = sym c.null_element.ensures ∙ c.in-None.is in
    let e = sym c.can_be_empty.ensures ∙ c.if-can_be_empty.true in
    ap good (c.room_size.ensures ∙ sym (ap length (empty-zeros a.column e) ∙ zeros-length a.column)) ∙ sym (ap size_of (null-empty a.column q e))

pub returns-in-None-2 : goal.returns-in-None-2
returns-in-None-2 c =
    let q = sym c.null_element.ensures ∙ c.in-None-2.is in
    sym (ap size_of (null-none c.args.column q (sym c.can_be_empty.ensures ∙ c.if-can_be_empty.false)))
