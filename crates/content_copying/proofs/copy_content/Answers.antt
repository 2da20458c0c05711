-- `content_copying::copy_content` meets its contract: by what the elements of the kind are.
use mathlib.Core.Path.{◌≡◌}
use Rattle.number.proofs.Laws.{shape_of}
use Rattle.number.specs.Clauses.{shape_as}
use Rattle.number.specs.declared.Elements.{Elements}
use Rattle.table.specs.Shape.{shape}
use Rattle.content_copying.proofs.copy_content.Goals as goal

pub returns-in-Truths : goal.returns-in-Truths
returns-in-Truths c =
    let kind-is : (e : Elements) → c.elements_of.result ≡ e → shape c.args.kind ≡ shape_as e = λ _ told. shape_of c.elements_of.ensures told in
    rw (kind-is _ c.in-Truths.is) c.copy_truths.ensures

pub returns-in-Bits : goal.returns-in-Bits
returns-in-Bits c =
    let kind-is : (e : Elements) → c.elements_of.result ≡ e → shape c.args.kind ≡ shape_as e = λ _ told. shape_of c.elements_of.ensures told in
    rw (kind-is _ c.in-Bits.is) c.copy_bits.ensures

pub returns-in-Whole : goal.returns-in-Whole
returns-in-Whole c =
    let kind-is : (e : Elements) → c.elements_of.result ≡ e → shape c.args.kind ≡ shape_as e = λ _ told. shape_of c.elements_of.ensures told in
    rw (kind-is _ c.in-Whole.is) c.copy_integers.ensures

pub returns-in-Text : goal.returns-in-Text
returns-in-Text c =
    let kind-is : (e : Elements) → c.elements_of.result ≡ e → shape c.args.kind ≡ shape_as e = λ _ told. shape_of c.elements_of.ensures told in
    rw (kind-is _ c.in-Text.is) c.copy_text.ensures
