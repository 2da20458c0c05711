-- The number names BINARY, BINARY2 or none; where it does, the index' answer goes out as five numbers and its buffer is the one lent.
use Rattle.sailmortar.proofs.Numbers.{of-binary, of_none}
use Rattle.sailmortar.specs.Face.{Faced, faced, five, index_face, no_such_kind}
use borrow.Author.Rules.{rules}
use mathlib.Core.Path.{◌∙◌, ap, sym}
use Rattle.sailmortar.proofs.sailmortar_index.Goals as goal

pub returns-in_default : goal.returns-in_default
unfolding index_face no_such_kind
returns-in_default c =
    let e = of_none _ _ _ (sym c.binary_of.ensures ∙ c.in_default.is) in record { numbers = ap (λ (f : Faced). f.numbers) (sym e); buffer = ap (λ (f : Faced). f.buffer) (sym e) }

pub returns : goal.returns
unfolding index_face faced
returns c =
    let e = of-binary _ _ _ _ (sym c.binary_of.ensures ∙ c.in-Some.is) in
    record {
      numbers = c.put_answer.ensures ∙ ap five c.index.ensures.answers ∙ ap (λ (f : Faced). f.numbers) (sym e);
      buffer = c.index.ensures.leaves ∙ ap (λ (f : Faced). f.buffer) (sym e);
    }
