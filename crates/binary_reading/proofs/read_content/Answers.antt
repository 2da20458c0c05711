-- binary_reading::read_content: no elements are none of any kind; else what the elements are says the shape of the kind, and so the length of the part.
use Rattle.binary_reading.proofs.Cells.{content-none, content-text, content-truths, fills-as}
use Rattle.binary.specs.Binary.{bit_bytes, content_bytes}
use Rattle.number.proofs.Laws.{shape_of}
use Rattle.number.specs.Clauses.{shape_as}
use Rattle.number.specs.declared.Elements.{Elements}
use Rattle.table.specs.Shape.{Shape}
use lib.ListN.{length}
use mathlib.Core.Path.{◌∙◌, ◌≡◌, ap}
use native.Mathlib.Omega.{arith}
use Rattle.binary_reading.proofs.read_content.Goals as goal

pub read_truths-requires : goal.read_truths-requires
unfolding content_bytes
read_truths-requires c =
    let long : (e : Elements) → c.elements_of.result ≡ e → let a = c.args in
    length a.part.now ≡ content_bytes (shape_as e) a.n = λ _ told. c.requires.0 ∙ ap (λ (k : Shape). content_bytes k c.args.n) (shape_of c.elements_of.ensures told) in
    omega (arith, long _ c.in-Truths.is)

pub read_bits-requires : goal.read_bits-requires
unfolding content_bytes bit_bytes
read_bits-requires c =
    let long : (e : Elements) → c.elements_of.result ≡ e → let a = c.args in
    length a.part.now ≡ content_bytes (shape_as e) a.n = λ _ told. c.requires.0 ∙ ap (λ (k : Shape). content_bytes k c.args.n) (shape_of c.elements_of.ensures told) in
    let e = long _ c.in-Bits.is in (omega (arith, e), omega (arith, e), omega (arith, e))

pub read_characters-requires : goal.read_characters-requires
unfolding content_bytes
read_characters-requires c =
    let long : (e : Elements) → c.elements_of.result ≡ e → let a = c.args in
    length a.part.now ≡ content_bytes (shape_as e) a.n = λ _ told. c.requires.0 ∙ ap (λ (k : Shape). content_bytes k c.args.n) (shape_of c.elements_of.ensures told) in
    omega (arith, long _ c.in-Text.is)

pub read_integers-requires : goal.read_integers-requires
unfolding content_bytes
read_integers-requires c =
    let long : (e : Elements) → c.elements_of.result ≡ e → let a = c.args in
    length a.part.now ≡ content_bytes (shape_as e) a.n = λ _ told. c.requires.0 ∙ ap (λ (k : Shape). content_bytes k c.args.n) (shape_of c.elements_of.ensures told) in
    (omega (arith, long _ c.in-Whole.is), omega arith)

pub returns-then-n-eq0 : goal.returns-then-n-eq0
returns-then-n-eq0 c = content-none _ _ _ _ c.if-n-eq0.true c.requires.0

pub returns-in-Truths : goal.returns-in-Truths
unfolding content_bytes
returns-in-Truths c =
    let long : (e : Elements) → c.elements_of.result ≡ e → let a = c.args in
    length a.part.now ≡ content_bytes (shape_as e) a.n = λ _ told. c.requires.0 ∙ ap (λ (k : Shape). content_bytes k c.args.n) (shape_of c.elements_of.ensures told) in
    let e = long _ c.in-Truths.is in
    rw (shape_of c.elements_of.ensures c.in-Truths.is) (fills-as (content-truths _ _ e) e c.read_truths.ensures)

pub returns-in-Bits : goal.returns-in-Bits
returns-in-Bits c =
    rw (shape_of c.elements_of.ensures c.in-Bits.is) c.read_bits.ensures

pub returns-in-Text : goal.returns-in-Text
unfolding content_bytes
returns-in-Text c =
    let long : (e : Elements) → c.elements_of.result ≡ e → let a = c.args in
    length a.part.now ≡ content_bytes (shape_as e) a.n = λ _ told. c.requires.0 ∙ ap (λ (k : Shape). content_bytes k c.args.n) (shape_of c.elements_of.ensures told) in
    rw (shape_of c.elements_of.ensures c.in-Text.is)
    (fills-as (content-text _ _) (long _ c.in-Text.is) c.read_characters.ensures)

pub returns-in-Whole : goal.returns-in-Whole
returns-in-Whole c =
    rw (shape_of c.elements_of.ensures c.in-Whole.is) c.read_integers.ensures
