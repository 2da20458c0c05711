-- Each number names a kind or none; where both do, the comparison goes out as eight numbers and its buffer is the one lent.
use Rattle.sailmortar.proofs.Numbers.{known, no_source, no_target}
use Rattle.sailmortar.specs.Face.{Faced, compare_face, compared_faced, eight, no_such_kind}
use borrow.Author.Rules.{rules}
use mathlib.Core.Path.{◌∙◌, ap, sym}
use Rattle.sailmortar.proofs.sailmortar_compare.Goals as goal

pub returns-in_default : goal.returns-in_default
unfolding compare_face no_such_kind
returns-in_default c =
    let e = no_source _ _ _ _ (sym c.rows_of.ensures ∙ c.in_default.is) in record { numbers = ap (λ (f : Faced). f.numbers) (sym e); buffer = ap (λ (f : Faced). f.buffer) (sym e) }

pub returns-in_default-rows_of : goal.returns-in_default-rows_of
unfolding compare_face no_such_kind
returns-in_default-rows_of c =
    let e = no_target _ _ _ _ _
    (sym c.rows_of.ensures ∙ c.in-Some.is)
    (sym c.rows_of-2.ensures ∙ c.in_default-rows_of.is) in record { numbers = ap (λ (f : Faced). f.numbers) (sym e); buffer = ap (λ (f : Faced). f.buffer) (sym e) }

pub returns : goal.returns
unfolding compare_face compared_faced
returns c =
    let e = known _ _ _ _ _
    (sym c.rows_of.ensures ∙ c.in-Some.is) _
    (sym c.rows_of-2.ensures ∙ c.in-Some-rows_of.is) in
    record {
      numbers = c.put_comparison.ensures ∙ ap eight c.compare-c.ensures.answers ∙ ap (λ (f : Faced). f.numbers) (sym e);
      buffer = c.compare-c.ensures.leaves ∙ ap (λ (f : Faced). f.buffer) (sym e);
    }
