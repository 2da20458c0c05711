-- `content_showing::show_content` meets its contract: by the kind's elements.
use mathlib.Core.Path.{◌≡◌}
use Rattle.binary.specs.Binary.{content_bytes}
use Rattle.content_showing.proofs.Contents.{bytes-as, moved_as, none-moved}
use Rattle.number.proofs.Laws.{shape_of}
use Rattle.number.specs.Clauses.{is_signed, width_of}
use Rattle.table.specs.Shape.{Bits, Text, Truths, Whole, shape}
use native.Mathlib.Omega.{arith}
use Rattle.content_showing.proofs.show_content.Goals as goal

pub returns-then-n-eq0 : goal.returns-then-n-eq0
returns-then-n-eq0 c = none-moved _ _ _ _ _ _ c.if-n-eq0.true c.requires.2

pub show_truths-requires : goal.show_truths-requires
unfolding content_bytes
show_truths-requires c =
    let truths-kind : shape c.args.kind ≡ Truths = shape_of c.elements_of.ensures c.in-Truths.is in (
      omega (arith, c.if-n-eq0.false),
      c.requires.0,
      omega (arith, bytes-as Truths (shape c.args.kind) c.args.n truths-kind, c.requires.1),
      c.requires.2,
    )

pub show_bits-requires : goal.show_bits-requires
unfolding content_bytes
show_bits-requires c =
    let bits-kind : shape c.args.kind ≡ Bits = shape_of c.elements_of.ensures c.in-Bits.is in (
      omega (arith, c.if-n-eq0.false),
      c.requires.0,
      omega (arith, bytes-as Bits (shape c.args.kind) c.args.n bits-kind, c.requires.1),
      c.requires.2,
    )

pub show_text-requires : goal.show_text-requires
unfolding content_bytes
show_text-requires c =
    let text-kind : shape c.args.kind ≡ Text = shape_of c.elements_of.ensures c.in-Text.is in
    (omega (arith, bytes-as Text (shape c.args.kind) c.args.n text-kind, c.requires.1), c.requires.2)

pub show_whole-requires : goal.show_whole-requires
unfolding content_bytes
show_whole-requires c =
    let whole-kind : shape c.args.kind ≡ Whole (is_signed c.in-Whole.integer) (width_of c.in-Whole.integer) = shape_of c.elements_of.ensures c.in-Whole.is in (
      omega (arith, c.if-n-eq0.false),
      c.requires.0,
      omega (arith, bytes-as _ (shape c.args.kind) c.args.n whole-kind, c.requires.1),
      c.requires.2,
    )

pub returns-in-Truths : goal.returns-in-Truths
returns-in-Truths c =
    let truths-kind : shape c.args.kind ≡ Truths = shape_of c.elements_of.ensures c.in-Truths.is in
    let a = c.args in
    let r = c.show_truths in
    moved_as a.n a.at a.o a.s.now a.row.now _ r.result Truths _ truths-kind r.ensures

pub returns-in-Bits : goal.returns-in-Bits
returns-in-Bits c =
    let bits-kind : shape c.args.kind ≡ Bits = shape_of c.elements_of.ensures c.in-Bits.is in
    let a = c.args in
    let r = c.show_bits in
    moved_as a.n a.at a.o a.s.now a.row.now _ r.result Bits _ bits-kind r.ensures

pub returns-in-Text : goal.returns-in-Text
returns-in-Text c =
    let text-kind : shape c.args.kind ≡ Text = shape_of c.elements_of.ensures c.in-Text.is in
    let a = c.args in
    let r = c.show_text in
    moved_as a.n a.at a.o a.s.now a.row.now _ r.result Text _ text-kind r.ensures

pub returns-in-Whole : goal.returns-in-Whole
returns-in-Whole c =
    let whole-kind : shape c.args.kind ≡ Whole (is_signed c.in-Whole.integer) (width_of c.in-Whole.integer) = shape_of c.elements_of.ensures c.in-Whole.is in
    let a = c.args in
    let r = c.show_whole in
    moved_as a.n a.at a.o a.s.now a.row.now _ r.result _ _ whole-kind r.ensures
