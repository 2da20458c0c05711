-- Each number names a kind or none; where both do, the converter's answer goes out as six numbers and its buffer is the one lent.
use Rattle.sailmortar.proofs.Numbers.{known, no_source, no_target}
use Rattle.sailmortar.specs.Face.{Faced, no_such_kind, piece_face, piece_faced, six}
use borrow.Author.Rules.{rules}
use mathlib.Core.Path.{◌∙◌, ap, ap₂, sym}
use Rattle.sailmortar.proofs.sailmortar_convert_piece.Goals as goal

pub returns-in_default : goal.returns-in_default
unfolding piece_face no_such_kind
returns-in_default c =
    let e = no_source _ _ _ _ (sym c.rows_of.ensures ∙ c.in_default.is) in record { numbers = ap (λ (f : Faced). f.numbers) (sym e); buffer = ap (λ (f : Faced). f.buffer) (sym e) }

pub returns-in_default-rows_of : goal.returns-in_default-rows_of
unfolding piece_face no_such_kind
returns-in_default-rows_of c =
    let e = no_target _ _ _ _ _
    (sym c.rows_of.ensures ∙ c.in-Some.is)
    (sym c.rows_of-2.ensures ∙ c.in_default-rows_of.is) in record { numbers = ap (λ (f : Faced). f.numbers) (sym e); buffer = ap (λ (f : Faced). f.buffer) (sym e) }

pub returns : goal.returns
unfolding piece_face piece_faced
returns c =
    let e = known _ _ _ _ _
    (sym c.rows_of.ensures ∙ c.in-Some.is) _
    (sym c.rows_of-2.ensures ∙ c.in-Some-rows_of.is) in
    record {
      numbers = c.put_piece.ensures ∙ ap₂ six c.convert_piece-piece.ensures.answers c.convert_piece-piece.ensures.stands ∙ ap (λ (f : Faced). f.numbers) (sym e);
      buffer = c.convert_piece-piece.ensures.leaves ∙ ap (λ (f : Faced). f.buffer) (sym e);
    }
