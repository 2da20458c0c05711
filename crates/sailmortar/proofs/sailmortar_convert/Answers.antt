-- Each number names a kind or none; where both do, the converter's answer goes out as five numbers and its buffer is the one lent.
use Rattle.sailmortar.proofs.Numbers.{known, no_source, no_target}
use Rattle.sailmortar.specs.Face.{Faced, convert_face, faced, five, no_such_kind}
use borrow.Author.Rules.{rules}
use mathlib.Core.Path.{◌∙◌, ap, sym}
use Rattle.sailmortar.proofs.sailmortar_convert.Goals as goal

pub returns-in_default : goal.returns-in_default
unfolding convert_face no_such_kind
returns-in_default c =
    let e = no_source _ _ _ _ (sym c.rows_of.ensures ∙ c.in_default.is) in record { numbers = ap (λ (f : Faced). f.numbers) (sym e); buffer = ap (λ (f : Faced). f.buffer) (sym e) }

pub returns-in_default-rows_of : goal.returns-in_default-rows_of
unfolding convert_face no_such_kind
returns-in_default-rows_of c =
    let e = no_target _ _ _ _ _
    (sym c.rows_of.ensures ∙ c.in-Some.is)
    (sym c.rows_of-2.ensures ∙ c.in_default-rows_of.is) in record { numbers = ap (λ (f : Faced). f.numbers) (sym e); buffer = ap (λ (f : Faced). f.buffer) (sym e) }

pub returns : goal.returns
unfolding convert_face faced
returns c =
    let e = known _ _ _ _ _
    (sym c.rows_of.ensures ∙ c.in-Some.is) _
    (sym c.rows_of-2.ensures ∙ c.in-Some-rows_of.is) in
    record {
      numbers = c.put_answer.ensures ∙ ap five c.convert.ensures.answers ∙ ap (λ (f : Faced). f.numbers) (sym e);
      buffer = c.convert.ensures.leaves ∙ ap (λ (f : Faced). f.buffer) (sym e);
    }
